-- A rule for what reading keeps, record by record: where it holds at the beginning, and every record that is allowed keeps it, it holds of a module that is accepted.
use mathlib.Core.Path.{◌≡◌, refl, subst}
use mathlib.Core.Bool.{Bool, true, false, not, cond, ◌&&◌}
use mathlib.Core.List.{List, [], ◌∷◌, ◌++◌}
use mathlib.Core.Option.{Option, some, none as nothing}
use Prim.Native.Nat.{ℕ, zero, suc, ◌+◌, ◌≤◌}
use native.Mathlib.Omega.{arith}
use lib.Dec.{ltb, leb}
use lib.ListN.{length}
use borrow.Author.Tests.{ltb-false, not-false}
use Rattle.field.specs.Limits.{max_bytes}
use Rattle.field.specs.Field.{field_at}
use Rattle.module.specs.Module.{Module}
use Rattle.module.specs.declared.record.Mark.{Mark}
use Rattle.module.specs.declared.record.Mark.TheVariants.{TY, GV, FN, AR, LV, EX, BK, ST}
use Rattle.module.specs.Record.{mark_of, length_at, body_at, even}
use Rattle.module.specs.Reading.{Reading, in_arguments, scope_of, added, closed}
use Rattle.module.specs.Blocks.{block_rule}
use Rattle.module.specs.File.{Next, go, stop, ◌>>=◌, unless, over, fine, ended, ended_at, placed, body_next, mark_next, record_next, Answer, accepted, refused, answer_of, onward, read_from, start, read_module}
use Rattle.valid.proofs.Fits.{and_right}

-- whether a function is open
abbrev pub opens : Reading → Bool
opens r = leb in_arguments r.stage

-- what has been read where the open function has ended, if there is one
abbrev pub with_last : Bool → Reading → Reading
with_last b r =
    record {
      stage = r.stage;
      types = r.types;
      globals = r.globals;
      functions = cond b (r.functions ++ (closed r.open_one ∷ [])) r.functions;
      open_one = r.open_one;
    }

abbrev pub module_in : Reading → Module
module_in r = record { types = r.types; globals = r.globals; functions = r.functions }

-- what a record of this mark stands on
abbrev pub Before : (While Ended : Reading → Type 0) → Mark → Reading → Type 0
Before While Ended TY r = While r
Before While Ended GV r = While r
Before While Ended FN r = Ended r
Before While Ended AR r = While r
Before While Ended LV r = While r
Before While Ended EX r = While r
Before While Ended BK r = While r
Before While Ended ST r = While r

-- where the block rule holds of the function that ends
abbrev pub EndsWell : Bool → Reading → Type 0
EndsWell b r = (b && not (block_rule (closed r.open_one))) ≡ false

-- a record of these fields may stand here
pub record Allowed (mark : Mark) (fs : List ℕ) (r : Reading) : Type 0 where
  pub place : placed mark r.stage ≡ true
  pub few : over mark (scope_of r) fs ≡ false
  pub good : fine mark (scope_of r) fs ≡ true

-- `While n` is kept of what has been read up to the byte n, and `Ended n` where a function has ended there.
pub record Keeps : Type 1 where
  pub While : ℕ → Reading → Type 0
  pub Ended : ℕ → Reading → Type 0
  pub begins : While 0 start
  pub ends : (at : ℕ) (r : Reading) → While at r → EndsWell (opens r) r → Ended at (with_last (opens r) r)
  pub adds : (at next : ℕ) (mark : Mark) (fs : List ℕ) (r : Reading) → at + 4 ≤ next → Before (While at) (Ended at) mark r → Allowed mark fs r → While next (added mark fs r)

abbrev OnGo : (Reading → Type 0) → Next → Type 0
OnGo P (go r) = P r
OnGo P (stop n) = Unit {0}

abbrev OnAccepted : (Module → Type 0) → Answer → Type 0
OnAccepted P (accepted m) = P m
OnAccepted P (refused n) = Unit {0}

unless-on : (P : Reading → Type 0) (b : Bool) (n : ℕ) (k : Next) → (b ≡ false → OnGo P k) → OnGo P (unless b n k)
unless-on P true n k h = tt
unless-on P false n k h = h refl

bind_on : (P Q : Reading → Type 0) (n : Next) (k : Reading → Next) → OnGo P n → ((r : Reading) → P r → OnGo Q (k r)) → OnGo Q (n >>= k)
bind_on P Q (go r) k h f = f r h
bind_on P Q (stop n) k h f = tt

module _ (bytes : List ℕ) (K : Keeps) where
  -- what a record of this mark stands on, where it may stand here
  record Ready (at : ℕ) (mark : Mark) (r : Reading) : Type 0 where
    pub before : Before (K.While at) (K.Ended at) mark r
    pub place : placed mark r.stage ≡ true

  ended-on : (at : ℕ) (r : Reading) → K.While at r → OnGo (K.Ended at) (ended r)
  unfolding ended
  ended-on at r h = unless-on (K.Ended at) (opens r && not (block_rule (closed r.open_one))) 5 _ (λ e. K.ends at r h e)

  ended_at-on : (at : ℕ) (mark : Mark) (r : Reading) → K.While at r → placed mark r.stage ≡ true → OnGo (Ready at mark) (ended_at mark r)
  unfolding ended_at
  ended_at-on at TY r h e = record { before = h; place = e }
  ended_at-on at GV r h e = record { before = h; place = e }
  ended_at-on at FN r h e = function_ended (ended r) (ended-on at r h)
    where
      function_ended : (n : Next) → OnGo (K.Ended at) n → OnGo (Ready at FN) n
      function_ended (go q) k = unfold placed in record { before = k; place = refl }
      function_ended (stop n) k = tt
  ended_at-on at AR r h e = record { before = h; place = e }
  ended_at-on at LV r h e = record { before = h; place = e }
  ended_at-on at EX r h e = record { before = h; place = e }
  ended_at-on at BK r h e = record { before = h; place = e }
  ended_at-on at ST r h e = record { before = h; place = e }

  module _ (at next : ℕ) (l : at + 4 ≤ next) where
    body_on : (mark : Mark) (r : Reading) → Ready at mark r → OnGo (K.While next) (body_next bytes at mark r)
    unfolding body_next
    body_on mark r h =
        let good = fine mark (scope_of r) (body_at bytes at) in
        unless-on (K.While next) (over mark (scope_of r) (body_at bytes at)) 4 _
        (λ o.
        unless-on (K.While next) (not (even bytes at && good)) 5 _
        (λ t.
        K.adds at next mark (body_at bytes at) r l h.before
        (record { place = h.place; few = o; good = and_right (even bytes at) good (not-false (even bytes at && good) t) })))

    mark_on : (known : Option Mark) (r : Reading) → K.While at r → OnGo (K.While next) (mark_next bytes at known r)
    unfolding mark_next
    mark_on nothing r h = tt
    mark_on (some mark) r h =
        unless-on (K.While next) (not (placed mark r.stage)) 3 _
        (λ o.
        bind_on (Ready at mark) (K.While next) (ended_at mark r) (body_next bytes at mark)
        (ended_at-on at mark r h (not-false (placed mark r.stage) o)) (body_on mark))

  -- the byte after a record is one of the file, or its end
  pub record Inside (at : ℕ) (r : Reading) : Type 0 where
    pub kept : K.While at r
    pub inside : at ≤ length bytes

  record_on : (at : ℕ) (r : Reading) → Inside at r → OnGo (Inside (at + 4 + length_at bytes at)) (record_next bytes at r)
  unfolding record_next
  record_on at r h =
      let next = at + 4 + length_at bytes at in
      unless-on (Inside next) (ltb (length bytes) (at + 4)) 2 _
      (λ o.
      unless-on (Inside next) (ltb (length bytes) next) 2 _
      (λ t. there next (mark_next bytes at (mark_of (field_at bytes at)) r) (ltb-false (length bytes) next t) (mark_on at next (omega arith) (mark_of (field_at bytes at)) r h.kept)))
    where
      there : (next : ℕ) (n : Next) → next ≤ length bytes → OnGo (K.While next) n → OnGo (Inside next) n
      there next (go q) l k = record { kept = k; inside = l }
      there next (stop c) l k = tt

  module _ (Q : Module → Type 0) (h : (at : ℕ) (r : Reading) → K.Ended at r → at ≤ length bytes → length bytes ≤ max_bytes → Q (module_in r)) (few : length bytes ≤ max_bytes) where
    answer_on : (at : ℕ) (n : Next) → at ≤ length bytes → OnGo (K.Ended at) n → OnAccepted Q (answer_of n)
    answer_on at (go r) l k = h at r k l few
    answer_on at (stop n) l k = tt

    onward-on : (next : ℕ) (n : Next) (k : Reading → Answer) → OnGo (Inside next) n → ((r : Reading) → Inside next r → OnAccepted Q (k r)) → OnAccepted Q (onward n k)
    onward-on next (go r) k i f = f r i
    onward-on next (stop n) k i f = tt

    next_on : (b : Bool) (at : ℕ) (r : Reading) (k : Reading → Answer) → Inside at r → ((q : Reading) → Inside (at + 4 + length_at bytes at) q → OnAccepted Q (k q)) → OnAccepted Q (elim b [ true ↦ answer_of (ended r) | false ↦ onward (record_next bytes at r) k ])
    next_on true at r k i f = answer_on at (ended r) i.inside (ended-on at r i.kept)
    next_on false at r k i f = onward-on (at + 4 + length_at bytes at) (record_next bytes at r) k (record_on at r i) f

    from_on : (most at : ℕ) (r : Reading) → Inside at r → OnAccepted Q (read_from most bytes at r)
    unfolding read_from
    from_on zero at r i = tt
    from_on (suc most) at r i =
        next_on (leb (length bytes) at) at r (read_from most bytes (at + 4 + length_at bytes at)) i (from_on most (at + 4 + length_at bytes at))

  module _ (Q : Module → Type 0) (h : (at : ℕ) (r : Reading) → K.Ended at r → at ≤ length bytes → length bytes ≤ max_bytes → Q (module_in r)) where
    read_on : OnAccepted Q (read_module bytes)
    unfolding read_module
    read_on = whole (ltb max_bytes (length bytes)) refl
      where
        whole : (b : Bool) → ltb max_bytes (length bytes) ≡ b → OnAccepted Q (elim b [ true ↦ refused 1 | false ↦ read_from (suc (length bytes)) bytes 0 start ])
        whole true e = tt
        whole false e = from_on Q h (ltb-false max_bytes (length bytes) e) (suc (length bytes)) 0 start (record { kept = K.begins; inside = omega arith })

    pub kept : (m : Module) → read_module bytes ≡ accepted m → Q m
    kept m e = subst (OnAccepted Q) e read_on
