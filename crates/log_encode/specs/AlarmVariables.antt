-- The variables of one alarm, in a row.
use Rattle.std.specs.Prelude.{ℕ, suc, ◌+◌, ◌*◌, ◌≤◌, Bool, true, false}
use Rattle.des_base.specs.ChainCount.{chain_count}
use Rattle.des_base.specs.declared.TheConstants.{VAR_LIMIT}
use Rattle.log_encode.specs.declared.alarm_vars.AlarmVars.{AlarmVars}

-- how many variables a link has
abbrev pub link_width : ℕ → ℕ
link_width steps = 1 + steps * 2

-- how many a certain alarm has: of its links, of when it is done, and of the chains over its matches
abbrev pub alarm_variable_count : ℕ → ℕ → ℕ
alarm_variable_count links steps = links * link_width steps + (suc steps + steps * chain_count links)

-- and how many more a doubtful one
abbrev pub false_width : Bool → ℕ
false_width true = 1
false_width false = 0

-- how many variables an alarm has in all
abbrev pub alarm_width : AlarmVars → ℕ
alarm_width vars = alarm_variable_count vars.links vars.steps + false_width vars.doubtful

-- the first variable of a link ends the chain after it
abbrev pub closed_variable : AlarmVars → ℕ → ℕ
closed_variable vars link = vars.start + link * link_width vars.steps

-- for the step after t steps, the one that matches the alarm to the event of the link
abbrev pub match_variable : AlarmVars → ℕ → ℕ → ℕ
match_variable vars link t = vars.start + (link * link_width vars.steps + suc (t * 2))

-- and for that step, behind it, the one that passes the event on
abbrev pub passed_variable : AlarmVars → ℕ → ℕ → ℕ
passed_variable vars link t = vars.start + (link * link_width vars.steps + suc (t * 2 + 1))

-- behind all links, whether the alarm is done within t steps: matched, or false
abbrev pub done_variable : AlarmVars → ℕ → ℕ
done_variable vars t = vars.start + (vars.links * link_width vars.steps + t)

-- behind these, for the step after t steps, the first one of the chain over its matches
abbrev pub chain_variable : AlarmVars → ℕ → ℕ
chain_variable vars t = vars.start + (vars.links * link_width vars.steps + (suc vars.steps + t * chain_count vars.links))

-- and at the end, for a doubtful alarm, whether it is false
abbrev pub dropped_variable : AlarmVars → ℕ
dropped_variable vars = vars.start + (vars.links * link_width vars.steps + (suc vars.steps + vars.steps * chain_count vars.links))

-- all are within the limit of variables
abbrev pub AreWithinLimit : AlarmVars → Type 0
AreWithinLimit vars = vars.start + alarm_width vars ≤ VAR_LIMIT
