-- Steps along a list, said of the store s that they go along: what is kept from an entry to the next is kept by all that a search passes over.
use Prim.Native.Nat.{ℕ, ◌<◌, ◌≤◌}
use native.Mathlib.Omega.{arith}
use mathlib.Core.Path.{◌≡◌, refl, sym, subst, ◌∙◌}
use mathlib.Core.Bool.{Bool, true, false, true≢false, false≢true}
use mathlib.Core.List.{List, [], ◌∷◌}
use denote.Param.Members.{Mut, Called}
use denote.Ref.{Bor}
use Rattle.std.specs.Prelude.{Some, None}
use Rattle.std.specs.Fn.{CalledAt}
use Rattle.std.specs.Iterator.{Yields, FindsItem, ChecksAny}
use Rattle.std.specs.List.{FoldsTo}
use Rattle.part.specs.declared.list.Entries.{Entries}
use Rattle.part.specs.declared.store.Cell.{Cell}
use Rattle.part.specs.Store.{top, Seen}
use Rattle.part.specs.Listed.{Inside, Gives, GivesEntry}

-- it goes along a list of the store s
abbrev pub On : List ℕ → Entries → Type 0
On s e = Inside e × (e.cells.now ≡ s)

module _ {s : List ℕ} {e f : Entries} {x : Cell} (o : On s e) (g : Gives e x f) where
  pub entry_seen : Seen s e.rest x.index x.child x.rest
  entry_seen = subst (λ t. Seen t e.rest x.index x.child x.rest) o.1 g.seen

  pub entry_child : x.child < top s
  entry_child = let k = entry_seen in subst (λ t. x.child < top t) o.1 (omega (arith, o.0.1, k.child_low))

  -- it stands at the rest then
  pub entry_on : (P : ℕ → Type 0) → P x.rest → On s f × P f.rest
  entry_on P p = subst (λ k. On s k × P k.rest) (sym g.on) (((o.0.0, omega (arith, o.0.1, g.seen.rest_low)), o.1), p)

-- calls that pass over entries of which No holds keep P
module _ {s : List ℕ} {F : Type 0} (R : F → Cell → F → Type 0) {f : F} (P : ℕ → Type 0) (No : Cell → Type 0)
    (keeps : (n : ℕ) (x : Cell) → Seen s n x.index x.child x.rest → No x → P n → P x.rest)
    (passes : (x : Cell) (q : F) → R f x q → (q ≡ f) × No x) where
  passed : (xs : List Cell) (k j : F) (e u : Entries) → k ≡ f → FoldsTo R k xs j → Yields GivesEntry e xs u → On s e → P e.rest → (On s u × P u.rest) × (j ≡ f)
  passed [] k j e u same calls run o p = (subst (λ i. On s i × P i.rest) run (o, p), sym calls ∙ same)
  passed (x ∷ xs) k j e u same calls run o p =
      let call = passes x calls.0 (subst (λ i. R i x calls.0) same calls.1) in
      let next = entry_on o run.1 P (keeps e.rest x (entry_seen o run.1) call.1 p) in
      passed xs calls.0 j run.0 u call.0 calls.2 run.2 next.0 next.1

module _ {s : List ℕ} {F : Type 0} (g : Mut F (Bor Cell × Unit {0}) Bool) {f : F} (P : ℕ → Type 0) (No Yes : Cell → Type 0)
    (keeps : (n : ℕ) (x : Cell) → Seen s n x.index x.child x.rest → No x → P n → P x.rest)
    (no : (x : Cell) (q : F) → CalledAt g f x false q → (q ≡ f) × No x) (yes : (x : Cell) (q : F) → CalledAt g f x true q → Yes x)
    {e u : Entries} where
  pub found : {x : Cell} → FindsItem GivesEntry g e f (Some x) u → On s e → P e.rest → (n : ℕ) × Seen s n x.index x.child x.rest × P n × Yes x
  found {x} r o p =
      let w = passed (λ i x k. CalledAt g i x false k) P No keeps no r.0 f r.1 e r.2.0 refl r.3 r.2.1 o p in
      (r.2.0.rest, entry_seen w.0.0 r.2.2, w.0.1, yes x r.4.0 (subst (λ i. CalledAt g i x true r.4.0) w.1 r.4.1))

  pub missed : FindsItem GivesEntry g e f None u → On s e → P e.rest → (u.rest ≤ 2) × P u.rest
  missed r o p =
      let w = passed (λ i x k. CalledAt g i x false k) P No keeps no r.0 f r.1 e r.2.0 refl r.3 r.2.1 o p in
      subst (λ (k : Entries). (k.rest ≤ 2) × P k.rest) (sym r.2.2.1) (r.2.2.0, w.0.1)

module _ {s : List ℕ} {F : Type 0} (g : Mut F (Cell × Unit {0}) Bool) {f : F} (P : ℕ → Type 0) (No Yes : Cell → Type 0)
    (keeps : (n : ℕ) (x : Cell) → Seen s n x.index x.child x.rest → No x → P n → P x.rest)
    (no : (x : Cell) (q : F) → Called g f (x, tt) false q → (q ≡ f) × No x) (yes : (x : Cell) (q : F) → Called g f (x, tt) true q → Yes x)
    {e u : Entries} where
  -- of what `any` says: it stopped at an entry, or passed all
  pub any_found : ChecksAny GivesEntry g e f true u → On s e → P e.rest → (x : Cell) × (n : ℕ) × Seen s n x.index x.child x.rest × P n × Yes x
  any_found (xs, None, j, run, calls, at) o p = absurd (true≢false at)
  any_found (xs, Some x, j, run, calls, at) o p =
      let w = passed (λ i z k. Called g i (z, tt) false k) P No keeps no xs f j e run.0 refl calls run.1 o p in
      (x, run.0.rest, entry_seen w.0.0 run.2, w.0.1, yes x at.1.0 (subst (λ i. Called g i (x, tt) true at.1.0) w.1 at.1.1))

  pub any_missed : ChecksAny GivesEntry g e f false u → On s e → P e.rest → (u.rest ≤ 2) × P u.rest
  any_missed (xs, Some x, j, run, calls, at) o p = absurd (false≢true at.0)
  any_missed (xs, None, j, run, calls, at) o p =
      let w = passed (λ i z k. Called g i (z, tt) false k) P No keeps no xs f j e run.0 refl calls run.1 o p in
      subst (λ (k : Entries). (k.rest ≤ 2) × P k.rest) (sym run.2.1) (run.2.0, w.0.1)
