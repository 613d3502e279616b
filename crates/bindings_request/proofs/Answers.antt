-- What is written of an answer: a refusal leaves the slice, and a request within 16 fits it.
use Prim.Native.Nat.{ℕ, ◌+◌, ◌≤◌, ◌<◌, ◌^◌}
use native.Mathlib.Omega.{arith}
use mathlib.Core.Path.{◌≡◌, refl, subst}
use mathlib.Core.List.{List}
use lib.ListN.{length}
use lib.Seq.{sets}
use Rattle.std.specs.Prelude.{Result, Ok, Err}
use Rattle.field.specs.Limits.{min_report, max_pieces}
use Rattle.field.specs.Refusal.{number}
use Rattle.field.specs.declared.refusal.Refusal.{Refusal}
use Rattle.part.specs.PartReq.{PartReq, entries}
use Rattle.part.specs.Store.{top, part, Good}
use Rattle.request.specs.Request.{write_request}
use Rattle.request.proofs.RequestBytes.{request_long}
use Rattle.bindings.specs.ContextBindings.{Answer, refused}
use Rattle.bindings.specs.Outputs.{asking_of, AskingHeld}
use Rattle.bindings_request.specs.Boundary.{written, refused_by, told, left, Gave}

pub gave_refused : {o : List ℕ} {a : Answer (List ℕ)} (r : Refusal) → a ≡ refused (number r) → Gave o o a (Err (refused_by r))
unfolding told left
gave_refused r e = rw e (record { is = refl; out = refl })

pub asking_refused : (s : List ℕ) (f : ℕ) (g : PartReq) {a : Result ℕ Refusal} {e : Refusal} {o : List ℕ} → a ≡ Err e → Gave o o (written f (asking_of s g a)) (Err (refused_by e))
unfolding written
asking_refused s f g {e = e} q = rw q (gave_refused e refl)

module _ (s : List ℕ) (f globals : ℕ) {n : ℕ} {a : Result ℕ Refusal} (e : a ≡ Ok n) where
  held_piece : AskingHeld s (part s globals) a → (n < top s) × (entries (part s globals) + entries (part s n) ≤ max_pieces)
  held_piece h = subst (AskingHeld s (part s globals)) e h

  pub asking_fits : {l : ℕ} → Good s → globals < top s → AskingHeld s (part s globals) a → min_report ≤ l
      → Good s × (((n < top s) × (globals < top s)) × ((length (write_request f (part s n) (part s globals)) ≤ l) × (length (write_request f (part s n) (part s globals)) < 2 ^ 16)))
  asking_fits g low h room =
      let p = held_piece h in
      let few = p.1 in
      let long = request_long f (part s n) (part s globals) in
      (g, ((p.0, low), (omega arith, omega arith)))

  pub asking_written : {o p : List ℕ} {r : ℕ} → (p ≡ sets o 0 (write_request f (part s n) (part s globals))) × (r ≡ length (write_request f (part s n) (part s globals)))
      → Gave o p (written f (asking_of s (part s globals) a)) (Ok r)
  unfolding written told left
  asking_written w = rw e (record { is = rw w.1; out = w.0 })
