-- The check of any bytes: the file's refusal first, then what is answered of the module that was read.
use Prim.Native.Nat.{ℕ, ◌≤◌}
use mathlib.Core.Path.{◌≡◌, ◌∙◌}
use mathlib.Core.List.{List}
use Rattle.module.specs.Tables.{module_of}
use Rattle.request.specs.Request.{request_of}
use Rattle.request.specs.Context.{context_of}
use Rattle.reading.specs.Reads.{Reads}
use Rattle.access.specs.Laid.{WasRead}
use Rattle.clearance.specs.Verdict.{Answer, refused}
use Rattle.checking.specs.Check.{on_module, meaning_by, meaning, answer_to, check}

module _ {bytes t : List ℕ} {n : ℕ} (R : Reads bytes t n) where
  pub file_read : n ≡ 0 → WasRead bytes t
  file_read z = record { module_is = (R.accepts z).0; laid = (R.accepts z).1 }

  module _ (request report context : List ℕ) where
    pub file_refused : 1 ≤ n → refused n ≡ check bytes request report context
    unfolding check meaning on_module answer_to
    file_refused h = rw (R.refuses h)

    pub file_checked : {a : Answer} → n ≡ 0 → a ≡ answer_to (meaning_by (module_of bytes t) report (request_of request) (context_of context)) → a ≡ check bytes request report context
    unfolding check meaning on_module
    file_checked z e = e ∙ rw (R.accepts z).0
