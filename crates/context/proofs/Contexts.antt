-- Contexts as four pieces: what each method finds and makes, map by map, and what a taking out leaves.
use Prim.Native.Nat.{ℕ, ◌+◌, ◌*◌, ◌<◌, ◌≤◌}
use native.Mathlib.Omega.{arith}
use mathlib.Core.Path.{◌≡◌, refl, ap, ◌∙◌}
use mathlib.Core.List.{List}
use mathlib.Core.Option.{some}
use Rattle.part.specs.PartReq.{PartReq, get_subpart, add, entries}
use Rattle.part.specs.Store.{top, part, Good, Kept, Room, Made}
use Rattle.part.proofs.Making.{kept_trans}
use Rattle.module.specs.Module.{TypeHandle, TypeInner}
use Rattle.context.specs.Types.{AllSized, split_most}
use Rattle.context.specs.Remove.{Removed, left, panic, remove}
use Rattle.context.specs.Reduced.{Took, remove_room}
use Rattle.context.specs.RequiredContext.{RequiredContext, merge_context, pieces, variable, VarRef, Global, Local, handle, required, alter, RemovedContext, left_context, with_globals, with_locals, remove_typed}
use Rattle.context.specs.Contexts.{context_of, HasContext, MadeContext, variable_of, map_of, TookContext, take_room}
use Rattle.context.specs.declared.required_context.RequiredContext.{RequiredContext as Pieces}
use Rattle.context.specs.declared.required_context.VarRef.{VarRef as Variable}
use Rattle.context.specs.declared.required_context.VarRef.TheVariants as variables
use Rattle.std.specs.Prelude.{Option as Maybe, Some, None}
use Rattle.context.proofs.Types.{sized_splits}
use Rattle.context.proofs.Cycle.{took_left, took_panic, entries-kept, RemoveAsked}
use Rattle.context.proofs.Removal.{left-of, entries-removed}
use Rattle.context.proofs.Removal as removal
use Rattle.context.proofs.Alter.{entries-altered}

-- what a sum of two pieces asks, and what it makes, where k cells were made before it
abbrev AddAsked : List ℕ → ℕ → ℕ → Type 0
AddAsked s m n = Good s × (((m < top s) × (n < top s)) × Room s (entries (part s m) + entries (part s n)))

module _ {s t : List ℕ} {m n : ℕ} (k : ℕ) (K : Kept s t) (h : top t ≤ top s + k) (a : m < top s) (b : n < top s) where
  later_asks : Room s (k + (entries (part s m) + entries (part s n))) → AddAsked t m n
  later_asks r =
      let e = entries-kept K m a in
      let f = entries-kept K n b in
      (K.good, ((omega (arith, K.tops), omega (arith, K.tops)), omega (arith, K.long)))

  later_made : {u : List ℕ} {r : ℕ} → Made t u (add (part t m) (part t n)) (entries (part t m) + entries (part t n)) r
      → Made s u (add (part s m) (part s n)) (k + (entries (part s m) + entries (part s n))) r
  later_made o =
      let e = entries-kept K m a in
      let f = entries-kept K n b in
      record {
        kept = kept_trans K o.kept;
        piece = o.piece;
        is = o.is ∙ rw (K.same m a, K.same n b);
        cost = omega (arith, o.cost);
      }

-- the four sums of two contexts: the cells of the first, of two, and of three of them
abbrev one_cost : List ℕ → Pieces → Pieces → ℕ
one_cost s c d = entries (part s c.globals) + entries (part s d.globals)

abbrev two_cost : List ℕ → Pieces → Pieces → ℕ
two_cost s c d = one_cost s c d + (entries (part s c.locals) + entries (part s d.locals))

abbrev three_cost : List ℕ → Pieces → Pieces → ℕ
three_cost s c d = two_cost s c d + (entries (part s c.args) + entries (part s d.args))

module _ {s : List ℕ} {c d : Pieces} (G : Good s) (H : HasContext s c × HasContext s d) (R : Room s (pieces (context_of s c) + pieces (context_of s d))) where
  pub globals-ask : AddAsked s c.globals d.globals
  unfolding pieces
  globals-ask = (G, ((H.0.globals, H.1.globals), omega arith))

  module _ {a : List ℕ} {x : ℕ} (A : Made s a (add (part s c.globals) (part s d.globals)) (one_cost s c d) x) where
    pub locals-ask : AddAsked a c.locals d.locals
    unfolding pieces
    locals-ask = later_asks (one_cost s c d) A.kept A.cost H.0.locals H.1.locals (omega arith)

    module _ {b : List ℕ} {y : ℕ} (B : Made a b (add (part a c.locals) (part a d.locals)) (entries (part a c.locals) + entries (part a d.locals)) y) where
      abbrev two : Made s b (add (part s c.locals) (part s d.locals)) (two_cost s c d) y
      two = later_made (one_cost s c d) A.kept A.cost H.0.locals H.1.locals B

      pub args-ask : AddAsked b c.args d.args
      unfolding pieces
      args-ask = later_asks (two_cost s c d) two.kept two.cost H.0.args H.1.args (omega arith)

      module _ {e : List ℕ} {z : ℕ} (E : Made b e (add (part b c.args) (part b d.args)) (entries (part b c.args) + entries (part b d.args)) z) where
        abbrev three : Made s e (add (part s c.args) (part s d.args)) (three_cost s c d) z
        three = later_made (two_cost s c d) two.kept two.cost H.0.args H.1.args E

        pub retval-ask : AddAsked e c.retval d.retval
        unfolding pieces
        retval-ask = later_asks (three_cost s c d) three.kept three.cost H.0.retval H.1.retval (omega arith)

        pub merge_done : {t : List ℕ} {w : ℕ} → Made e t (add (part e c.retval) (part e d.retval)) (entries (part e c.retval) + entries (part e d.retval)) w
            → MadeContext s t (merge_context (context_of s c) (context_of s d)) (pieces (context_of s c) + pieces (context_of s d)) (record { globals = x; locals = y; args = z; retval = w })
        unfolding merge_context pieces
        merge_done {t} {w} T =
            let four = later_made (three_cost s c d) three.kept three.cost H.0.retval H.1.retval T in
            let from-b = kept_trans E.kept T.kept in
            let from-a = kept_trans B.kept from-b in
            record {
              kept = four.kept;
              has = record {
                globals = omega (arith, A.piece, from-a.tops);
                locals = omega (arith, B.piece, from-b.tops);
                args = omega (arith, E.piece, T.kept.tops);
                retval = T.piece;
              };
              is = rw (from-a.same x A.piece ∙ A.is, from-b.same y B.piece ∙ two.is, T.kept.same z E.piece ∙ three.is, four.is);
              cost = omega (arith, four.cost);
            }

-- something taken out of a variable
abbrev taken : List ℕ → List TypeInner → TypeHandle → (q : ℕ) → Pieces → Variable → RemovedContext
taken s types ty q c v = remove_typed types (context_of s c) (variable_of v) ty (part s q)

abbrev Taking : List ℕ → List ℕ → List TypeInner → TypeHandle → ℕ → Pieces → Variable → Maybe ℕ → Type 0
Taking s t types ty q c v r = Took s t (alter (variable (handle (variable_of v))) (λ p. remove types p (part s q) (some ty)) (part s (map_of c v))) (remove_room (part s (map_of c v)) (part s q)) r

-- the map of a variable is there, and has what is needed of it
pub map_there : {s : List ℕ} {c : Pieces} → HasContext s c → (v : Variable) → map_of c v < top s
map_there H (variables.Global g) = H.globals
map_there H (variables.Local l) = H.locals

pub map_has : (s : List ℕ) (c : Pieces) (v : Variable) → get_subpart (part s (map_of c v)) (variable (handle (variable_of v))) ≡ required (context_of s c) (variable_of v)
map_has s c (variables.Global g) = refl
map_has s c (variables.Local l) = refl

map_few : (s : List ℕ) (c : Pieces) (v : Variable) → entries (part s (map_of c v)) ≤ pieces (context_of s c)
unfolding pieces
map_few s c (variables.Global g) = omega arith
map_few s c (variables.Local l) = omega arith

pub map_asks : {s : List ℕ} {q : ℕ} {c : Pieces} (v : Variable) → Good s → HasContext s c → q < top s
    → Room s (take_room (context_of s c) (part s q)) → RemoveAsked s (map_of c v) q
map_asks {s} {c = c} v G H l R = (G, ((map_there H v, l), omega (arith, map_few s c v)))

module _ {s t : List ℕ} (types : List TypeInner) (ty : TypeHandle) (q : ℕ) {c : Pieces} (H : HasContext s c) {r : Maybe ℕ} where
  pub map_panics : (v : Variable) → Taking s t types ty q c v r → r ≡ None → TookContext s t (taken s types ty q c v) (take_room (context_of s c) (part s q)) None
  unfolding pieces with_globals with_locals
  map_panics (variables.Global g) w f = record { kept = w.kept; has = tt; is = rw (← took_panic w f); cost = omega (arith, w.cost) }
  map_panics (variables.Local l) w f = record { kept = w.kept; has = tt; is = rw (← took_panic w f); cost = omega (arith, w.cost) }

  module _ {v : Variable} (w : Taking s t types ty q c v r) {n : ℕ} (f : r ≡ Some n) where
    pub globals_left : {g : _} → v ≡ variables.Global g → TookContext s t (taken s types ty q c v) (take_room (context_of s c) (part s q)) (Some (record { globals = n; locals = c.locals; args = c.args; retval = c.retval }))
    unfolding pieces with_globals
    globals_left e = record {
      kept = w.kept;
      has = record {
        globals = (took_left w f).0;
        locals = omega (arith, H.locals, w.kept.tops);
        args = omega (arith, H.args, w.kept.tops);
        retval = omega (arith, H.retval, w.kept.tops);
      };
      is = let l = rw e at (took_left w f).1 in rw (e, ← l, w.kept.same c.locals H.locals, w.kept.same c.args H.args, w.kept.same c.retval H.retval);
      cost = omega (arith, w.cost, map_few s c v);
    }

    pub locals_left : {g : _} → v ≡ variables.Local g → TookContext s t (taken s types ty q c v) (take_room (context_of s c) (part s q)) (Some (record { globals = c.globals; locals = n; args = c.args; retval = c.retval }))
    unfolding pieces with_locals
    locals_left e = record {
      kept = w.kept;
      has = record {
        globals = omega (arith, H.globals, w.kept.tops);
        locals = (took_left w f).0;
        args = omega (arith, H.args, w.kept.tops);
        retval = omega (arith, H.retval, w.kept.tops);
      };
      is = let l = rw e at (took_left w f).1 in rw (e, ← l, w.kept.same c.globals H.globals, w.kept.same c.args H.args, w.kept.same c.retval H.retval);
      cost = omega (arith, w.cost, map_few s c v);
    }

-- What is left of a context: what 16 counts grows by the parts of one type at most, for each part that is taken out.
globals_pieces : (c d : RequiredContext) (k : ℕ) (x : Removed) → removal.Left (λ r. entries r ≤ entries c.globals + k) x → with_globals c x ≡ left_context d
    → pieces d ≤ pieces c + k
unfolding with_globals pieces
globals_pieces c d k (left p) h e =
    let z : record { globals = p; locals = c.locals; args = c.args; retval = c.retval } ≡ d = cc in
    omega (arith, ap pieces z)
globals_pieces c d k panic h e = let z : ◌≡◌ {A = ℕ} 0 1 = cc in absurd (omega arith)

locals_pieces : (c d : RequiredContext) (k : ℕ) (x : Removed) → removal.Left (λ r. entries r ≤ entries c.locals + k) x → with_locals c x ≡ left_context d
    → pieces d ≤ pieces c + k
unfolding with_locals pieces
locals_pieces c d k (left p) h e =
    let z : record { globals = c.globals; locals = p; args = c.args; retval = c.retval } ≡ d = cc in
    omega (arith, ap pieces z)
locals_pieces c d k panic h e = let z : ◌≡◌ {A = ℕ} 0 1 = cc in absurd (omega arith)

module _ (types : List TypeInner) (S : AllSized types) (c d : RequiredContext) (ty : TypeHandle) (q : PartReq) where
  abbrev grown : ℕ
  grown = split_most * (1 + entries q)

  altered_pieces : (i : ℕ) (m : PartReq) → removal.Left (λ r. entries r ≤ entries m + grown) (alter i (λ p. remove types p q (some ty)) m)
  altered_pieces i = entries-altered i grown _ (λ p. left-of _ _ (λ r. entries-removed types split_most (sized_splits S) p q (some ty)))

  pub pieces-removed : (v : VarRef) → remove_typed types c v ty q ≡ left_context d → pieces d ≤ pieces c + grown
  pieces-removed (Global g) = globals_pieces c d grown _ (altered_pieces (variable g) c.globals)
  pieces-removed (Local l) = locals_pieces c d grown _ (altered_pieces (variable l) c.locals)
