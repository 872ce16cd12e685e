-- What a call answers that refuses some things, and that memory may fail in any case.
use Rattle.std.specs.Prelude.{◌≡◌, ◌≢◌, Option, Some, None, Result, Ok, Err}

-- a call succeeds unless there is a refusal, which it gives then; but it may always be out of memory
abbrev pub SucceedsUnless : {X E : Type 0} → Option E → E → Result X E → Type 0
SucceedsUnless refusal memory (Ok x) = refusal ≡ None
SucceedsUnless refusal memory (Err e) = e ≢ memory → refusal ≡ Some e
