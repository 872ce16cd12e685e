-- How many variables of its own "at most one" of some takes: none where each pair of at most four is excluded, else a chain.
use Rattle.std.specs.Prelude.{ℕ, ◌-◌, nat_le, if◌then◌else◌}

-- how many variables an "at most one" of k literals takes beside them: none for at most four, else one for each literal but the last
abbrev pub chain_count : ℕ → ℕ
chain_count k = if nat_le k 4 then 0 else k - 1
