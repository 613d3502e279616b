-- A context's record as the code writes it: the body field by field, then the header before it, which is the same as the header first.
use Prim.Native.Nat.{ℕ, suc, ◌+◌, ◌-◌, ◌*◌, ◌≤◌, ◌<◌, ◌^◌}
use native.Mathlib.Omega.{arith}
use mathlib.Core.Path.{◌≡◌, refl, ap, sym, ◌∙◌}
use mathlib.Core.List.{List, [], ◌∷◌}
use lib.ListN.{length, set}
use lib.Seq.{sets, set_comm}
use Rattle.field.specs.Field.{set_field, set_word}
use Rattle.context.specs.RequiredContext.{RequiredContext}
use Rattle.context.specs.Contexts.{context_of}
use Rattle.context.specs.declared.required_context.RequiredContext.{RequiredContext as Pieces}
use Rattle.request.specs.Fields.{bytes_of}
use Rattle.request.specs.Context.{write_context_body, write_context}
use Rattle.request.specs.Written.{Fits, Written}
use Rattle.request.proofs.Bytes.{length-bytes_of}
use Rattle.request.proofs.Writing.{written_long}

-- a store before a run of stores
set-sets : (l : List ℕ) (j : ℕ) (vs : List ℕ) (i a : ℕ) → i < j → set (sets l j vs) i a ≡ sets (set l i a) j vs
set-sets l j [] i a h = refl
set-sets l j (v ∷ vs) i a h =
    set-sets (set l j v) (suc j) vs i a (omega arith)
    ∙ ap (λ (x : List ℕ). sets x (suc j) vs) (set_comm l j i v a (λ e. omega arith))

pub before_body : (l vs : List ℕ) (a b c d e f : ℕ)
    → set (set (set (set (set (set (sets l 6 vs) 0 a) 1 b) 2 c) 3 d) 4 e) 5 f ≡ sets (set (set (set (set (set (set l 0 a) 1 b) 2 c) 3 d) 4 e) 5 f) 6 vs
before_body l vs a b c d e f =
    rw
    (set-sets l 6 vs 0 a (omega arith), set-sets (set l 0 a) 6 vs 1 b (omega arith), set-sets (set (set l 0 a) 1 b) 6 vs 2 c (omega arith), set-sets (set (set (set l 0 a) 1 b) 2 c) 6 vs 3 d (omega arith), set-sets (set (set (set (set l 0 a) 1 b) 2 c) 3 d) 6 vs 4 e (omega arith), set-sets (set (set (set (set (set l 0 a) 1 b) 2 c) 3 d) 4 e) 6 vs 5 f (omega arith))

pub length-context : (c : RequiredContext) → length (write_context c) ≡ 6 + 2 * length (write_context_body c)
unfolding write_context bytes_of
length-context c = omega (arith, length-bytes_of (write_context_body c))

module _ (s o : List ℕ) (c : Pieces) (room : length (write_context (context_of s c)) ≤ length o) where
  pub body_room : Fits o 6 (write_context_body (context_of s c))
  body_room = omega (arith, length-context (context_of s c))

  module _ {t : List ℕ} {end : ℕ} (body : Written o t 6 (write_context_body (context_of s c)) end) where
    pub end_is : end ≡ length (write_context (context_of s c))
    end_is = body.next_is ∙ sym (length-context (context_of s c))

    pub head_room : length (write_context (context_of s c)) < 2 ^ 32 → (6 ≤ end) × (end ≤ length t) × (end < 2 ^ 32)
    head_room small =
        let long = written_long body in
        (omega (arith, end_is, length-context (context_of s c)), omega (arith, end_is, long, room), omega (arith, end_is, small))

    pub context_written : {u : List ℕ} → u ≡ set_word (set (set t 0 67) 1 88) 2 (end - 6) → u ≡ sets o 0 (write_context (context_of s c))
    unfolding write_context set_word set_field bytes_of
    context_written {u} e =
        let long : end - 6 ≡ 2 * length (write_context_body (context_of s c)) = omega (arith, body.next_is) in
        e ∙ rw (long, body.is) (before_body o (bytes_of (write_context_body (context_of s c))) _ _ _ _ _ _)
