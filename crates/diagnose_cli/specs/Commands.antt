-- The commands: for each what its words spell and what it has to do.
use Rattle.std.specs.Prelude.{◌≡◌, ◌^◌, ◌≤◌, ⊤, ℕ, List, [], ◌∷◌, codes, Bool, true, false, is_none, Option, Some, None, if◌then◌else◌, bytes_eq, option_map, option_and_then}
use Rattle.des_base.specs.CommandWords.{word_at}
use Rattle.des_base.specs.Numbers.{number_up_to}
use Rattle.cost_least.specs.Costs.{cost_size}
use Rattle.event_costs.specs.CostText.{cost_of, fault_event_of}
use Rattle.gen_plant.specs.Plant.{plant_net, plant_log}
use Rattle.inquiries.specs.Begun.{HasAskedWithin, HasQuestion, MayLearn}
use Rattle.des_net.specs.Network.{Net}
use Rattle.model_text.specs.ModelFaults.{network_of}
use Rattle.model_text.specs.ReadBack.{IsAsRead, ReadsBack}
use Rattle.log_order.specs.Log.{Log as AlarmLog, no_log}
use Rattle.log_csv.specs.LogText.{log_of}
use Rattle.log_csv.specs.ScriptText.{script_of}
use Rattle.pricing.specs.LeastCost.{LeavesCosts, cost_variables}
use Rattle.replay.specs.QuestionSize.{question_size}
use Rattle.twin_test.specs.Twins.{twin_size}
use Rattle.verdict_telling.specs.Left.{LeavesVerdicts}
use Rattle.endings.specs.Texts.{FileKind, model, log, script, run, cnf, lrat, costs}
use Rattle.endings.specs.Transcripts.{Transcript}
use Rattle.diagnose_cli.specs.declared.bench_command.BenchCommand.{BenchCommand}
use Rattle.diagnose_cli.specs.declared.command.Limits.{Limits}
use Rattle.diagnose_cli.specs.declared.generate_command.GenerateCommand.{GenerateCommand}
use Rattle.diagnose_cli.specs.declared.generate_command.PlantText.{PlantText}
use Rattle.diagnose_cli.specs.declared.generate_command.PlantText.TheVariants.{Model, Log}
use Rattle.diagnose_cli.specs.declared.twin_command.TwinCommand.{TwinCommand}
use Rattle.diagnose_cli.specs.CheapReplies.{SaysCheap}
use Rattle.diagnose_cli.specs.Questions.{AnswersTo, HasEnough, NamedQuestion, named_questions}
use Rattle.diagnose_cli.specs.Replies.{IsEnough, SaysBenched, SaysChecked, SaysModel, SaysReplayed, SaysTraced, reply_of_log, reply_of_model}
use Rattle.diagnose_cli.specs.SessionReplies.{IsSession}
use Rattle.diagnose_cli.specs.Tasks.{Called, NamedCommand, OverNone, OverOne, OverThree, OverTwo, Reply, Speech, asking_nothing, called_among, calls_by, one, read_words, size_over_one, size_over_three, size_over_two, speaking}
use Rattle.diagnose_cli.specs.TwinReplies.{LeavesOfWord, SaysOfWord}
use Rattle.diagnose_cli.specs.VerdictReplies.{IsVerdicts}
use Rattle.des_base.specs.declared.TheConstants.{MOST_STEPS}
use Rattle.diagnose_cli.specs.Words.{limits_of, most_number, units_of}

-- ---- commands that ask nothing

-- `trace MODEL RUN`: can the network perform the run
abbrev pub trace : NamedCommand Reply
trace = record {
  name = codes "trace";
  count = 3;
  Word = ⊤;
  spelled = λ words. Some tt;
  task = λ word. asking_nothing (model ∷ run ∷ []) (λ texts reply. OverTwo texts (λ text steps. SaysTraced text steps reply));
}

-- `show MODEL`: the model in its plain form
abbrev pub show : NamedCommand Reply
show = record {
  name = codes "show";
  count = 2;
  Word = ⊤;
  spelled = λ words. Some tt;
  task = λ word. asking_nothing (model ∷ []) (λ texts reply. OverOne texts (λ text. SaysModel (network_of text) reply));
}

-- `replay MODEL LOG RUN N`: does the run explain the log within N parallel steps
abbrev pub replay : NamedCommand Reply
replay = record {
  name = codes "replay";
  count = 5;
  Word = ℕ;
  spelled = λ words. number_up_to MOST_STEPS (word_at words 4);
  task = λ steps. asking_nothing (model ∷ log ∷ run ∷ []) (λ texts reply. OverThree texts (λ text alarms events. SaysReplayed steps text alarms events reply));
}

-- `check CNF LRAT`: does the proof refute the formula
abbrev pub check : NamedCommand Reply
check = record {
  name = codes "check";
  count = 3;
  Word = ⊤;
  spelled = λ words. Some tt;
  task = λ word. asking_nothing (cnf ∷ lrat ∷ []) (λ texts reply. OverTwo texts (λ formula proof. SaysChecked formula proof reply));
}

-- `model` or `log`
abbrev pub plant_text_of : List ℕ → Option PlantText
plant_text_of text = if bytes_eq text (codes "model") then Some Model else if bytes_eq text (codes "log") then Some Log else None

-- what is asked of `generate`
abbrev pub generate_of : List ℕ → List ℕ → List ℕ → Option GenerateCommand
generate_of text units start =
    option_and_then (λ t.
    option_and_then (λ z. option_map (λ s. record { text = t; units = z; start = s }) (number_up_to most_number start)) (units_of units)) (plant_text_of text)

-- the reply has the text of this network, which reads back if it is as it was read, or that of this log
abbrev pub PrintsPlant : PlantText → Net → AlarmLog → Reply → Type 0
PrintsPlant Model net alarms reply = (reply ≡ reply_of_model net) × (IsAsRead net → ReadsBack net)
PrintsPlant Log net alarms reply = reply ≡ reply_of_log alarms

-- the reply has the text of a plant
abbrev pub SaysPlant : PlantText → (units start : ℕ) → Reply → Type 0
SaysPlant Model units start reply = SaysModel (plant_net units) reply
SaysPlant Log units start reply = reply ≡ reply_of_log (plant_log units start)

-- `generate model Z START` and `generate log Z START`: the model of the plant with Z units, and the log of those that trip
abbrev pub generate : NamedCommand Reply
generate = record {
  name = codes "generate";
  count = 4;
  Word = GenerateCommand;
  spelled = λ words. generate_of (word_at words 1) (word_at words 2) (word_at words 3);
  task = λ word. asking_nothing [] (λ texts reply. OverNone texts (SaysPlant word.text word.units word.start reply));
}

-- ---- questions

-- `NAME MODEL LOG N LAST`: a question about a model and a log, within N parallel steps
abbrev pub asking : NamedQuestion → NamedCommand Reply
asking question = record {
  name = question.name;
  count = 5;
  Word = ℕ × question.Word;
  spelled = λ words. option_and_then (λ n. option_map (λ last. (n, last)) (question.spelled (word_at words 4))) (number_up_to MOST_STEPS (word_at words 3));
  task = λ word. record {
    files = model ∷ log ∷ [];
    lacks_fault = λ words texts. false;
    size = λ texts. size_over_two texts (λ text alarms. question_size (network_of text) (log_of alarms) word.0);
    says = λ words book texts reply. OverTwo texts (λ text alarms. AnswersTo question word.1 (network_of text) (log_of alarms) word.0 book reply);
    asks = true;
    leaves = λ words texts book. OverTwo texts (λ text alarms. HasQuestion (network_of text) (log_of alarms) word.0 (MayLearn (question.budget word.1)) book);
    lost = λ book. ⊤;
    enough = λ words texts. OverTwo texts (λ text alarms. HasEnough question word.1 (network_of text) (log_of alarms) word.0);
  };
}

-- what is asked of `bench`
abbrev pub bench_of : List ℕ → List ℕ → List ℕ → List ℕ → Option BenchCommand
bench_of units start steps budget =
    option_and_then (λ z.
    option_and_then (λ s. option_map (λ l. record { units = z; start = s; limits = l }) (limits_of steps budget)) (number_up_to most_number start)) (units_of units)

-- `bench Z START N BUDGET`: what `diagnose` finds of that plant, summed up
abbrev pub bench : NamedCommand Reply
bench = record {
  name = codes "bench";
  count = 5;
  Word = BenchCommand;
  spelled = λ words. bench_of (word_at words 1) (word_at words 2) (word_at words 3) (word_at words 4);
  task = λ word. record {
    files = [];
    lacks_fault = λ words texts. false;
    size = λ texts. Some (question_size (plant_net word.units) (plant_log word.units word.start) word.limits.steps);
    says = λ words book texts reply. OverNone texts (SaysBenched word.units word.start word.limits.steps word.limits.budget book reply);
    asks = true;
    leaves = λ words texts book. OverNone texts (HasQuestion (plant_net word.units) (plant_log word.units word.start) word.limits.steps (HasAskedWithin word.limits.budget) book);
    lost = λ book. ⊤;
    enough = λ words texts. OverNone texts (IsEnough word.limits.budget (plant_net word.units) (plant_log word.units word.start) word.limits.steps);
  };
}

-- what is asked of `twin`: its event is a word too, which stands behind the model
abbrev pub twin_of : List ℕ → List ℕ → List ℕ → Option TwinCommand
twin_of steps after budget =
    option_and_then (λ n.
    option_and_then (λ d. option_map (λ b. record { steps = n; after = d; budget = b }) (number_up_to most_number budget)) (number_up_to MOST_STEPS after)) (number_up_to MOST_STEPS steps)

-- the word behind the model names no fault event of it
abbrev pub names_no_fault : List (List ℕ) → List (List ℕ) → Bool
names_no_fault words (text ∷ []) = is_none (fault_event_of (network_of text) (word_at words 2))
names_no_fault words _ = false

-- `twin MODEL EVENT N AFTER BUDGET`: whether a run with the fault event and a run without it look alike within N parallel steps, where after the fault something has to be seen in at least AFTER of them
abbrev pub twin : NamedCommand Reply
twin = record {
  name = codes "twin";
  count = 6;
  Word = TwinCommand;
  spelled = λ words. twin_of (word_at words 3) (word_at words 4) (word_at words 5);
  task = λ word. record {
    files = model ∷ [];
    lacks_fault = names_no_fault;
    size = λ texts. size_over_one texts (λ text. twin_size (network_of text) word.steps word.after);
    says = λ words book texts reply. OverOne texts (λ text. SaysOfWord (network_of text) (word_at words 2) word.steps word.after word.budget book reply);
    asks = true;
    leaves = λ words texts book. OverOne texts (λ text. LeavesOfWord (network_of text) (word_at words 2) word.steps word.after word.budget book);
    lost = λ book. ⊤;
    enough = λ words texts. ⊥;
  };
}

-- `cheapest MODEL LOG COSTS N BUDGET`: the least total cost of what explains the log within N parallel steps, where fault events have the costs of a text
abbrev pub cheapest : NamedCommand Reply
cheapest = record {
  name = codes "cheapest";
  count = 6;
  Word = Limits;
  spelled = λ words. limits_of (word_at words 4) (word_at words 5);
  task = λ limits. record {
    files = model ∷ log ∷ costs ∷ [];
    lacks_fault = λ words texts. false;
    size = λ texts. size_over_three texts (λ text alarms prices. cost_size (network_of text) (log_of alarms) limits.steps);
    says = λ words book texts reply. OverThree texts (λ text alarms prices. SaysCheap (network_of text) (cost_of (network_of text) prices) (log_of alarms) limits.steps limits.budget book reply);
    asks = true;
    leaves = λ words texts book. OverThree texts (λ text alarms prices. LeavesCosts (network_of text) (cost_of (network_of text) prices) (log_of alarms) limits.steps limits.budget book);
    lost = λ book. ⊤;
    enough = λ words texts. OverThree texts (λ text alarms prices. 3 ^ cost_variables (network_of text) (log_of alarms) limits.steps ≤ limits.budget);
  };
}

-- ---- commands with several replies

-- `NAME MODEL FILE N BUDGET`: within N parallel steps, and each time with the whole budget
abbrev pub told_often : List ℕ → List FileKind → (Limits → Speech) → NamedCommand Transcript
told_often name files speech = record { name = name; count = 5; Word = Limits; spelled = λ words. limits_of (word_at words 3) (word_at words 4); task = λ limits. speaking files (speech limits) }

-- over a model and a script: the rows of the script one after another, additions to a log and questions about it
abbrev pub session_speech : Limits → Speech
session_speech limits = record {
  size = λ texts. size_over_two texts (λ text lines. question_size (network_of text) no_log limits.steps);
  says = λ book texts told. OverTwo texts (λ text lines. IsSession (network_of text) limits.steps limits.budget (script_of lines) book told);
  leaves = λ texts book. ⊤;
  lost = λ book. book ≡ [];
}

-- `session MODEL SCRIPT N BUDGET`
abbrev pub session : NamedCommand Transcript
session = told_often (codes "session") (model ∷ script ∷ []) session_speech

-- over a model and a log: what `diagnose` says, and then of each fault event whether all explanations with that number of faults have it, some or none
abbrev pub verdicts_speech : Limits → Speech
verdicts_speech limits = record {
  size = λ texts. size_over_two texts (λ text alarms. question_size (network_of text) (log_of alarms) limits.steps);
  says = λ book texts told. OverTwo texts (λ text alarms. IsVerdicts (network_of text) (log_of alarms) limits.steps limits.budget book told);
  leaves = λ texts book. OverTwo texts (λ text alarms. LeavesVerdicts (network_of text) (log_of alarms) limits.steps limits.budget book);
  lost = λ book. book ≡ [];
}

-- `verdicts MODEL LOG N BUDGET`
abbrev pub verdicts : NamedCommand Transcript
verdicts = told_often (codes "verdicts") (model ∷ log ∷ []) verdicts_speech

-- ---- all of them

-- the questions that have names
abbrev pub asking_each : List NamedQuestion → List (NamedCommand Transcript)
asking_each [] = []
asking_each (question ∷ others) = one (asking question) ∷ asking_each others

-- the list: a further command is a line
abbrev pub named_commands : List (NamedCommand Transcript)
named_commands = one trace ∷ one show ∷ one replay ∷ one check ∷ one generate ∷ one bench ∷ one twin ∷ one cheapest ∷ session ∷ verdicts ∷ asking_each named_questions

-- what the words call, of which the first is the name
abbrev pub command_of : List (List ℕ) → Called
command_of words = called_among named_commands (word_at words 0) words

-- it stands in the list
abbrev pub IsInList : NamedCommand Transcript → List (List ℕ) → Type 1
IsInList c words = called_among named_commands c.name words ≡ calls_by c (read_words c words)
