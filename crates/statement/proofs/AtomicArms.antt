-- `Atomic`: what is needed of its result and of its target is put aside and asked, as the definition says.
use Prim.Native.Nat.{ℕ, zero, suc, ◌+◌, ◌<◌, ◌≤◌}
use native.Mathlib.Omega.{arith}
use mathlib.Core.Path.{◌≡◌, refl, sym, ap, subst, ◌∙◌}
use mathlib.Core.Bool.{Bool, ◌||◌}
use mathlib.Core.List.{List, [], ◌∷◌}
use mathlib.Core.Option.{Option, some, none as nothing}
use lib.ListN.{length, get_or}
use lib.Seq.{get_or-set_same, get_or-set_other}
use Rattle.std.specs.Prelude.{Option as Found, Some, None, is_some, Result, Ok, Err}
use Rattle.field.specs.Limits.{max_pieces}
use Rattle.part.specs.PartReq.{PartReq, entries, Subpart, gone, there}
use Rattle.part.specs.Store.{part}
use Rattle.part.specs.Found.{Got}
use Rattle.module.specs.Module.{Module, AtomicStatement}
use Rattle.module.specs.Decode.{option_of, statement_of}
use Rattle.module.specs.Tables.{module_of}
use Rattle.access.specs.Access.{operand_at}
use Rattle.access.specs.declared.kinded.Kinded.{Kinded}
use Rattle.valid.specs.Valid.{MaybeBelow}
use Rattle.context.specs.Contexts.{variable_of}
use Rattle.sound.proofs.Walks.{module_sound}
use Rattle.walk.specs.State.{Records, State, Out, went, ◌>>◌, record_pieces}
use Rattle.walk.specs.Resolve.{function_at, store_required, is_there}
use Rattle.walk.specs.Proper.{Fine, EachRecord}
use Rattle.walk.specs.StatementReq.{StatementReq}
use Rattle.walk.specs.Statement.{Frame, ask_needed, ask_result, need_of, record_of, add_atomic, add_statement}
use Rattle.walk.proofs.Keeps.{Needs}
use Rattle.walk.proofs.Bind.{then_went, then_halt, next_same}
use Rattle.memory.specs.Layout as layout
use Rattle.memory.specs.Layout.{exprs_slot}
use Rattle.memory.specs.Memory.{read, context_at}
use Rattle.memory.proofs.Slots.{kept_read}
use Rattle.state.specs.State.{Rest, records_in, state_of, totals_sum}
use Rattle.state.specs.Ready.{Ready}
use Rattle.state.specs.Frame.{frame_of, Apart}
use Rattle.state.specs.declared.frame.Frame as declared
use Rattle.state.specs.declared.answer.Halt.{Halt}
use Rattle.state.specs.declared.answer.Tally.{Tally}
use Rattle.state.specs.declared.answer.Answer.{Answer}
use Rattle.state.proofs.Others.{others_same, others_apart, apart_trans}
use Rattle.target.specs.declared.resolve.Target as resolve
use Rattle.target.proofs.Checking.{need_fine}
use Rattle.statement.specs.Leaf.{leaf_req, Arm, Leaves}
use Rattle.statement.specs.Asks.{Open, Asked, maybe_ask, answer_of}
use Rattle.statement.specs.Aim.{Aiming, Aimed, AimIs, Aims}
use Rattle.statement.specs.Aside.{aside_field, aside_slots, Loading}
use Rattle.statement.specs.declared.aim.Aim.{Aim}
use Rattle.statement.proofs.Holding.{Holdable, hold_ready, hold_state, hold_totals, hold_apart}
use Rattle.statement.proofs.Asking.{begins, began, ends}
use Rattle.statement.proofs.Aiming.{kept_ready}
use Rattle.statement.proofs.Uses.{arm_uses}

-- records: each is fine, and no larger than all
record_fine : (es : Records) (e : ℕ) → EachRecord es → Needs Fine (need_of (get_or es e nothing))
unfolding need_of
record_fine [] e h = tt
record_fine (nothing ∷ es) zero h = tt
record_fine (some p ∷ es) zero h = h.0
record_fine (o ∷ es) (suc e) h = record_fine es e h.1

wider : (m n : ℕ) (x : Subpart) → m ≤ n → Needs (λ p. entries p ≤ m) x → Needs (λ p. entries p ≤ n) x
wider m n gone l h = tt
wider m n (there p) l h = omega arith

record_few : (es : Records) (e : ℕ) → Needs (λ p. entries p ≤ record_pieces es) (need_of (get_or es e nothing))
unfolding need_of record_pieces
record_few [] e = tt
record_few (nothing ∷ es) zero = tt
record_few (some p ∷ es) zero = omega arith
record_few (nothing ∷ es) (suc e) = record_few es e
record_few (some p ∷ es) (suc e) = wider (record_pieces es) (suc (entries p) + record_pieces es) (need_of (get_or es e nothing)) (omega arith) (record_few es e)

of-record : (P : PartReq → Type 0) (es : Records) → ((e : ℕ) → Needs P (need_of (get_or es e nothing))) → (o : Option ℕ) → Needs P (record_of es o)
unfolding record_of
of-record P es h nothing = tt
of-record P es h (some e) = h e

-- what was found may be put aside
abbrev Holds : List ℕ → ℕ → Found ℕ → Type 0
Holds s k None = Unit {0}
Holds s k (Some n) = Holdable s k n

module _ {bytes t s rs : List ℕ} {f at held sum : ℕ} (h : Ready bytes t s rs f at held sum) (k : ℕ) where
  aside_ready : (found : Found ℕ) → Holds s k found → Ready bytes t s (aside_slots rs k found) f at held sum
  aside_ready None q = h
  aside_ready (Some n) q = hold_ready h q

  aside_state : (found : Found ℕ) → Holds s k found → (rest : Rest) (v : ℕ) → state_of t f at (read s (aside_slots rs k found)) rest v ≡ state_of t f at (read s rs) rest v
  aside_state None q rest v = refl
  aside_state (Some n) q rest v = hold_state h q rest v

  aside_totals : (found : Found ℕ) → Holds s k found → totals_sum (read s (aside_slots rs k found)) ≡ totals_sum (read s rs)
  aside_totals None q = refl
  aside_totals (Some n) q = hold_totals h q

  aside_apart : (found : Found ℕ) → Holds s k found → Apart t f at s rs s (aside_slots rs k found)
  aside_apart None q = others_apart (others_same refl refl)
  aside_apart (Some n) q = hold_apart h q

-- P is the part that was found
abbrev Means : List ℕ → Found ℕ → PartReq → Type 0
Means s None p = Unit {0}
Means s (Some n) p = p ≡ part s n

means_put : (s rs : List ℕ) (k : ℕ) → k < length rs → (found : Found ℕ) → Means s found (part s (get_or (aside_slots rs k found) k 0))
means_put s rs k l None = tt
means_put s rs k l (Some n) = ap (part s) (get_or-set_same rs k n 0 l)

-- a store into another slot
means_kept : (s rs : List ℕ) (k j : ℕ) → (j ≡ k → ⊥) → (found other : Found ℕ) → Means s found (part s (get_or rs j 0)) → Means s found (part s (get_or (aside_slots rs k other) j 0))
means_kept s rs k j ne None other h = tt
means_kept s rs k j ne (Some n) None h = h
means_kept s rs k j ne (Some n) (Some i) h = ap (part s) (get_or-set_other rs k j i 0 ne) ∙ h

-- the asks of what was found are the definition's
module _ (m : Module) (fr : Frame) (s : List ℕ) where
  ask-result : (found : Found ℕ) (sub : Subpart) (e : Option ℕ) (p : PartReq) (st : State) → Got s sub found → Means s found p
      → maybe_ask m fr.function fr.held (aside_field found e) p st ≡ ask_result m fr e sub st
  unfolding maybe_ask ask_result ask_needed
  ask-result None sub nothing p st g z = refl
  ask-result None sub (some x) p st g z = rw g
  ask-result (Some n) sub nothing p st g z = refl
  ask-result (Some n) sub (some x) p st g z = rw (g.1, z)

  ask-value : (found : Found ℕ) (sub : Subpart) (e : ℕ) (p : PartReq) (st : State) → Got s sub found → Means s found p
      → maybe_ask m fr.function fr.held (aside_field found (some e)) p st ≡ ask_needed m fr e sub st
  unfolding maybe_ask ask_needed
  ask-value None sub e p st g z = rw g
  ask-value (Some n) sub e p st g z = rw (g.1, z)

found_is : (s : List ℕ) (found : Found ℕ) (x : Subpart) → Got s x found → is_some found ≡ is_there x
unfolding is_there
found_is s None x g = rw g
found_is s (Some n) x g = rw g.1

aside_below : (n : ℕ) (found : Found ℕ) (e : Option ℕ) → MaybeBelow n e → MaybeBelow n (aside_field found e)
aside_below n None e h = tt
aside_below n (Some i) e h = h

holds : (s : List ℕ) (k : ℕ) → layout.ask ≤ k → k ≤ layout.returned → (found : Found ℕ) (sub : Subpart) → Got s sub found → Needs Fine sub → Needs (λ p. entries p ≤ max_pieces) sub → Holds s k found
holds s k l b None sub g f e = tt
holds s k l b (Some n) sub g f e =
    let fine : Fine (part s n) = subst (Needs Fine) g.1 f in
    let small : entries (part s n) ≤ max_pieces = subst (Needs (λ (p : PartReq). entries p ≤ max_pieces)) g.1 e in
    record { low = l; high = b; piece = g.0; few = omega arith; fine = fine.within }

module _ {bytes t s rs : List ℕ} {fr : declared.Frame} {row : Kinded} {sum : ℕ} (a : Arm bytes t s rs fr row sum) (kind : row.kind ≡ 13) (visits : ℕ) where
  abbrev o : ℕ → ℕ
  o = operand_at bytes row

  abbrev n : ℕ
  n = length (function_at (module_of bytes t) fr.function.0).expressions

  statement_is : statement_of row.kind o ≡ AtomicStatement (o 0) (o 1) (option_of (o 2))
  unfolding statement_of
  statement_is = rw kind

  uses : (o 0 < n) × (o 1 < n) × MaybeBelow n (option_of (o 2))
  uses = arm_uses a (AtomicStatement (o 0) (o 1) (option_of (o 2))) statement_is

  pub atomic_aims : Aiming bytes t s rs fr (o 0)
  atomic_aims = record { sum = sum; begun = a.begun; there = uses.0 }

  module _ {aim : Result Aim Halt} {u : List ℕ} (d : Aims bytes t s rs fr (o 0) aim u) where
    after : Ready bytes t u rs fr.function.0 fr.at fr.held sum
    after = kept_ready a.begun.ready d.kept

    same : read u rs ≡ read s rs
    same = kept_read rs d.kept a.begun.ready.memory.below

    pub atomic_refuses : {stop : Halt} → aim ≡ Err stop → Leaves bytes t s rs fr (statement_of row.kind o) visits (Err stop) u rs
    unfolding add_statement add_atomic
    atomic_refuses h =
        let f = subst (AimIs (module_of bytes t) (frame_of s rs fr) (o 0) (context_at (read s rs) fr.at) u) h d.by in
        rw statement_is (record { by = λ call block rest g. record { by = sym (then_halt _ (sym (f (state_of t fr.function.0 fr.at (read s rs) rest visits) refl))) } })

    pub atomic_loads : Loading bytes t u rs fr (option_of (o 2))
    atomic_loads = record { sum = sum; ready = after; below = uses.2 }

    abbrev records : Records
    records = records_in t exprs_slot fr.function.0 (read s rs)

    abbrev load_sub : Subpart
    load_sub = record_of records (option_of (o 2))

    module _ {y : resolve.Target} {found : Found ℕ} (load : Found ℕ) (h : aim ≡ Ok (record { target = y; needed = found })) (got : Got u (record_of (records_in t exprs_slot fr.function.0 (read u rs)) (option_of (o 2))) load) where
      aimed : Aimed (module_of bytes t) (frame_of s rs fr) (o 0) (context_at (read s rs) fr.at) u y found
      aimed = subst (AimIs (module_of bytes t) (frame_of s rs fr) (o 0) (context_at (read s rs) fr.at) u) h d.by

      abbrev need_sub : Subpart
      need_sub = store_required (context_at (read s rs) fr.at) (variable_of y.var) (part u y.part)

      loaded : Got u load_sub load
      loaded = rw same at got

      hold_load : Holds u layout.result load
      hold_load =
          holds u layout.result (omega arith) (omega arith) load load_sub loaded (of-record Fine records (λ e. record_fine records e a.begun.exprs.each) (option_of (o 2)))
          (of-record (λ p. entries p ≤ max_pieces) records (λ e. wider (record_pieces records) max_pieces (need_of (get_or records e nothing)) (omega (arith, a.begun.few, a.begun.ready.sums)) (record_few records e)) (option_of (o 2)))

      hold_need : Holds u layout.ask found
      hold_need = go found aimed.needs
        where
          go : (found : Found ℕ) → Got u need_sub found → Holds u layout.ask found
          go None g = tt
          go (Some i) g =
              let f = need_fine (module_of bytes t) (module_sound bytes (module_of bytes t) a.begun.ready.was_read.module_is) fr.function.0 (context_at (read s rs) fr.at) (variable_of y.var) (part u y.part) u i a.begun.fine g in
              record { low = omega arith; high = omega arith; piece = g.0; few = omega (arith, f.few, a.begun.few); fine = f.fine.within }

      abbrev us1 : List ℕ
      us1 = aside_slots rs layout.result load

      abbrev us2 : List ℕ
      us2 = aside_slots us1 layout.ask found

      ready1 : Ready bytes t u us1 fr.function.0 fr.at fr.held sum
      ready1 = aside_ready after layout.result load hold_load

      ready2 : Ready bytes t u us2 fr.function.0 fr.at fr.held sum
      ready2 = aside_ready ready1 layout.ask found hold_need

      pub atomic_first : layout.result < length rs
      atomic_first = omega (arith, after.memory.slots)

      pub atomic_second : layout.ask < length us1
      atomic_second = omega (arith, ready1.memory.slots)

      pub atomic_begins : Open bytes t u us2 fr (Ok (record { visits = visits; sum = sum }))
      atomic_begins = begins ready2

      pub atomic_below : MaybeBelow n (aside_field load (option_of (o 2))) × MaybeBelow n (aside_field found (some (o 1)))
      atomic_below = (aside_below n load (option_of (o 2)) uses.2, aside_below n found (some (o 1)) uses.1)

      pub atomic_asks : {w z : Result Tally Halt} {c : Bool} {r : Result Answer Halt} {s1 rs1 v vs : List ℕ}
          → Asked bytes t u us2 fr (Ok (record { visits = visits; sum = sum })) (maybe_ask (module_of bytes t) fr.function.0 fr.held (aside_field load (option_of (o 2)))) layout.result w s1 rs1
          → Asked bytes t s1 rs1 fr w (maybe_ask (module_of bytes t) fr.function.0 fr.held (aside_field found (some (o 1)))) layout.ask z v vs
          → c ≡ (is_some load || is_some found) → r ≡ answer_of z c → Leaves bytes t s rs fr (statement_of row.kind o) visits r v vs
      unfolding add_statement add_atomic leaf_req
      atomic_asks {w} {z} {c} {r} {s1} {rs1} {v} {vs} k l q e =
          let m = module_of bytes t in
          let frame = frame_of s rs fr in
          let totals : totals_sum (read u us2) ≡ totals_sum (read s rs) = aside_totals ready1 layout.ask found hold_need ∙ aside_totals after layout.result load hold_load ∙ ap totals_sum same in
          rw (statement_is, e)
          (record {
            by = λ call block rest i.
                let st = state_of t fr.function.0 fr.at (read s rs) rest visits in
                let states : state_of t fr.function.0 fr.at (read u us2) rest visits ≡ st
                = aside_state ready1 layout.ask found hold_need rest visits ∙ aside_state after layout.result load hold_load rest visits ∙ ap (λ (ps : List PartReq). state_of t fr.function.0 fr.at ps rest visits) same in
                ends StatementReq.Atomic c z
                (apart_trans (others_apart (others_same refl same)) (apart_trans (aside_apart after layout.result load hold_load) (aside_apart ready1 layout.ask found hold_need)))
                (rw (states, q, found_is u load load_sub loaded, found_is u found need_sub aimed.needs)
                (ap (λ (x : Out (Unit {0})). x >> maybe_ask m fr.function.0 fr.held (aside_field found (some (o 1))) (part u (get_or us2 layout.ask 0)) >> λ left. went left (StatementReq.Atomic (is_there load_sub || is_there need_sub)))
                (ask-result m frame u load load_sub (option_of (o 2)) (part u (get_or us2 layout.result 0)) st loaded (means_kept u us1 layout.ask layout.result (omega arith) load found (means_put u rs layout.result atomic_first load)))
                ∙ ap (λ (x : Out (Unit {0})). x >> λ left. went left (StatementReq.Atomic (is_there load_sub || is_there need_sub)))
                (next_same (ask_result m frame (option_of (o 2)) load_sub st) _ (ask_needed m frame (o 1) need_sub) (λ left. ask-value m frame u found need_sub (o 1) (part u (get_or us2 layout.ask 0)) left aimed.needs (means_put u us1 layout.ask atomic_second found)))
                ∙ sym (then_went _ (sym (aimed.is st refl)))))
                (l.by u us2 rest _ ready2.memory (i ∙ sym totals) (k.by u us2 rest _ ready2.memory (i ∙ sym totals) (began rest ready2)));
          })
