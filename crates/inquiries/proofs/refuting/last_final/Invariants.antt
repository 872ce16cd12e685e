use Rattle.std.proofs.Common.{◌≡◌, true, take}
use Rattle.std.specs.List.{list_any}
use Rattle.least_faults.specs.Evidence.{is_final}
use Rattle.inquiries.specs.Refuted.{IsLastFinal}
use Rattle.inquiries.proofs.refuting.last_final.Given as goal

-- it is the last final one so far, if there is one
abbrev pub invariant-loop-place : goal.invariant-loop-place
invariant-loop-place l = list_any is_final (take l.place l.book.entries) ≡ true → IsLastFinal (take l.place l.book.entries) l.last
