-- The statements that are required where anything is needed of their target: their fields, and that the arm is the definition's, for all kinds at once by what
-- they have in common.
use Prim.Native.Nat.{ℕ, zero, suc, ◌+◌}
use native.Mathlib.Omega.{arith}
use mathlib.Core.Path.{◌≡◌, refl, sym, ap, subst, ◌∙◌}
use mathlib.Core.Bool.{Bool, true, false}
use mathlib.Core.List.{List}
use mathlib.Core.Option.{Option as Optional, some, none as nothing}
use lib.ListN.{length, get_or}
use borrow.Author.Tests.{ne_eqb}
use Rattle.std.specs.Prelude.{Option, Some, None, Result, Ok, Err}
use Rattle.part.specs.PartReq.{PartReq, all, Subpart, gone, there}
use Rattle.part.specs.Store.{part}
use Rattle.part.specs.Found.{Got}
use Rattle.module.specs.Module.{Module, Statement, ExpressionHandle}
use Rattle.module.specs.Decode.{option_of, mode_of, mode_handles, statement_of}
use Rattle.module.specs.Tables.{module_of}
use Rattle.access.specs.Access.{operand_at}
use Rattle.access.specs.declared.kinded.Kinded.{Kinded}
use Rattle.valid.specs.Valid.{UsesBelow}
use Rattle.context.specs.Contexts.{variable_of}
use Rattle.walk.specs.State.{State, Place, Out, went, halt, Walk, ◌>>◌}
use Rattle.walk.specs.Resolve.{function_at, store_required}
use Rattle.walk.specs.StatementReq.{StatementReq}
use Rattle.walk.specs.Statement.{FunctionWalk, BlockWalk, Frame, Target, ask, ask_optional, ask_mode, target, when_needed, ray, add_statement}
use Rattle.walk.proofs.Bind.{then_went, then_halt, next_self, next_same}
use Rattle.memory.specs.Layout as layout
use Rattle.memory.specs.Memory.{read, context_at}
use Rattle.memory.proofs.Slots.{kept_read}
use Rattle.state.specs.State.{state_of, totals_sum}
use Rattle.state.specs.Ready.{Ready}
use Rattle.state.specs.Frame.{frame_of}
use Rattle.state.specs.declared.frame.Frame as declared
use Rattle.state.specs.declared.answer.Halt.{Halt}
use Rattle.state.specs.declared.answer.Tally.{Tally}
use Rattle.state.specs.declared.answer.Answer.{Answer}
use Rattle.state.proofs.Others.{others_same, others_apart}
use Rattle.target.specs.declared.resolve.Target as resolve
use Rattle.statement.specs.Leaf.{leaf_req, Arm, Leaves}
use Rattle.statement.specs.Asks.{Open, Asked, maybe_ask, answer_of}
use Rattle.statement.specs.Aim.{Aiming, Aimed, AimIs, Aims}
use Rattle.statement.specs.Rays.{RayKind, query, load, ballot, gather, collective, Ray, gather_fields, ray_fields, RayBelow}
use Rattle.statement.specs.declared.aim.Aim.{Aim}
use Rattle.statement.proofs.Asking.{begins, began, ends, optional_is}
use Rattle.statement.proofs.Aiming.{kept_ready}
use Rattle.statement.proofs.Uses.{arm_uses}

-- the fields as they are read
module _ (o : ℕ → ℕ) {a b c : ℕ} (p : a ≡ o 0) (q : b ≡ o 1) (r : c ≡ o 2) where
  pub broadcast_fields : {d : ℕ} → a ≡ 1 → d ≡ o 3 → ◌≡◌ {A = Ray} (record { target = d; first = some b; second = some c }) (gather_fields (o 0) o)
  unfolding gather_fields
  broadcast_fields e z = rw (sym p, e, q, r, z)

  pub first-fields : (a ≡ 1 → ⊥) → ◌≡◌ {A = Ray} (record { target = c; first = nothing; second = some b }) (gather_fields (o 0) o)
  unfolding gather_fields
  first-fields e = rw (ne_eqb (o 0) 1 (λ z. e (p ∙ z)), q, r)

module _ (o : ℕ → ℕ) {k a : ℕ} (p : a ≡ o 0) where
  pub query_fields : k ≡ 16 → ◌≡◌ {A = Ray} (record { target = a; first = nothing; second = nothing }) (ray_fields k o)
  unfolding ray_fields
  query_fields e = rw (e, p)

  pub ballot_fields : {x : Optional ℕ} → k ≡ 18 → x ≡ option_of (o 1) → ◌≡◌ {A = Ray} (record { target = a; first = x; second = nothing }) (ray_fields k o)
  unfolding ray_fields
  ballot_fields e q = rw (e, p, q)

  pub other_fields : {b : ℕ} → (k ≡ 16 → ⊥) → (k ≡ 18 → ⊥) → (k ≡ 19 → ⊥) → b ≡ o 1 → ◌≡◌ {A = Ray} (record { target = b; first = some a; second = nothing }) (ray_fields k o)
  unfolding ray_fields
  other_fields n i j q = rw (ne_eqb k 16 n, ne_eqb k 18 i, ne_eqb k 19 j, p, q)

pub mode_fields : (o : ℕ → ℕ) {k : ℕ} {r : Ray} → k ≡ 19 → r ≡ gather_fields (o 0) o → r ≡ ray_fields k o
unfolding ray_fields
mode_fields o e h = rw e h

-- what the arms have in common: the target, what is asked, what is said, and that the fields are there
record AsRay (m : Module) (fr : Frame) (n : ℕ) (x : Statement) (y : Ray) : Type 0 where
  asks : Walk (Unit {0})
  between : (st : State) → (maybe_ask m fr.function fr.held y.first all st >> maybe_ask m fr.function fr.held y.second all) ≡ asks st
  is : (call : FunctionWalk) (block : BlockWalk) (st : State) → ray m fr y.target asks st ≡ add_statement m call block fr x st
  said : (b : Bool) → leaf_req x b ≡ StatementReq.RayQuery b
  below : RayBelow n y

module _ (m : Module) (fr : Frame) (n : ℕ) (es : List Bool) where
  as_query : (o : ℕ → ℕ) → UsesBelow n es (statement_of 16 o) → AsRay m fr n (statement_of 16 o) (ray_fields 16 o)
  unfolding statement_of ray_fields add_statement leaf_req maybe_ask
  as_query o uses = record {
    asks = λ asked. went asked tt;
    between = λ st. refl;
    is = λ call block st. refl;
    said = λ b. refl;
    below = record { target = uses; first = tt; second = tt };
  }

  -- one expression and none
  then_absent : (x : Out (Unit {0})) → (x >> maybe_ask m fr.function fr.held nothing all) ≡ x
  unfolding maybe_ask
  then_absent x = next_self x

  one : (e : ℕ) (st : State) → (maybe_ask m fr.function fr.held (some e) all st >> maybe_ask m fr.function fr.held nothing all) ≡ ask m fr e all st
  unfolding maybe_ask
  one e st = then_absent (ask m fr e all st)

  as_load : (o : ℕ → ℕ) → UsesBelow n es (statement_of 17 o) → AsRay m fr n (statement_of 17 o) (ray_fields 17 o)
  unfolding statement_of ray_fields add_statement leaf_req
  as_load o uses = record {
    asks = ask m fr (o 0) all;
    between = one (o 0);
    is = λ call block st. refl;
    said = λ b. refl;
    below = record { target = uses.1; first = uses.0; second = tt };
  }

  as_collective : (o : ℕ → ℕ) → UsesBelow n es (statement_of 20 o) → AsRay m fr n (statement_of 20 o) (ray_fields 20 o)
  unfolding statement_of ray_fields add_statement leaf_req
  as_collective o uses = record {
    asks = ask m fr (o 0) all;
    between = one (o 0);
    is = λ call block st. refl;
    said = λ b. refl;
    below = record { target = uses.1; first = uses.0; second = tt };
  }

  as_ballot : (o : ℕ → ℕ) → UsesBelow n es (statement_of 18 o) → AsRay m fr n (statement_of 18 o) (ray_fields 18 o)
  unfolding statement_of ray_fields add_statement leaf_req
  as_ballot o uses = record {
    asks = ask_optional m fr (option_of (o 1)) all;
    between = λ st. then_absent (maybe_ask m fr.function fr.held (option_of (o 1)) all st) ∙ optional_is fr m (option_of (o 1)) all st;
    is = λ call block st. refl;
    said = λ b. refl;
    below = record { target = uses.0; first = uses.1; second = tt };
  }

  -- a gather, by its mode
  abbrev gathered : (mode : ℕ) → (ℕ → ℕ) → Statement
  gathered mode o = Rattle.module.specs.Module.SubgroupGather (mode_of mode (o 1)) (o (1 + get_or mode_handles mode 0)) (o (2 + get_or mode_handles mode 0))

  as_first : (mode : ℕ) (o : ℕ → ℕ) → mode_of mode (o 1) ≡ Rattle.module.specs.Module.BroadcastFirst → get_or mode_handles mode 0 ≡ 0 → (mode ≡ 1 → ⊥) → UsesBelow n es (gathered mode o) → AsRay m fr n (gathered mode o) (gather_fields mode o)
  unfolding gather_fields add_statement ask_mode leaf_req maybe_ask
  as_first mode o e h ne uses =
      let below : UsesBelow n es (Rattle.module.specs.Module.SubgroupGather Rattle.module.specs.Module.BroadcastFirst (o 1) (o 2)) = rw (e, h) at uses in
      rw (e, h, ne_eqb mode 1 ne)
      (record {
        asks = λ asked. ask_mode m fr Rattle.module.specs.Module.BroadcastFirst asked >> ask m fr (o 1) all;
        between = λ st. refl;
        is = λ call block st. refl;
        said = λ b. refl;
        below = record { target = below.2; first = tt; second = below.1 };
      })

  as_broadcast : (o : ℕ → ℕ) → UsesBelow n es (gathered 1 o) → AsRay m fr n (gathered 1 o) (gather_fields 1 o)
  unfolding mode_of mode_handles gather_fields add_statement ask_mode leaf_req maybe_ask
  as_broadcast o uses = record {
    asks = λ asked. ask_mode m fr (Rattle.module.specs.Module.Broadcast (o 1)) asked >> ask m fr (o 2) all;
    between = λ st. next_same (ask m fr (o 1) all st) _ _ (λ left. refl);
    is = λ call block st. refl;
    said = λ b. refl;
    below = record { target = uses.2; first = uses.0; second = uses.1 };
  }

  by_mode : (mode : ℕ) (o : ℕ → ℕ) → UsesBelow n es (gathered mode o) → AsRay m fr n (gathered mode o) (gather_fields mode o)
  by_mode zero o uses = as_first zero o (unfold mode_of in refl) (unfold mode_handles in refl) (omega arith) uses
  by_mode (suc zero) o uses = as_broadcast o uses
  by_mode (suc (suc mode)) o uses = as_first (suc (suc mode)) o (unfold mode_of in refl) (unfold mode_handles in refl) (omega arith) uses

  as_gather : (o : ℕ → ℕ) → UsesBelow n es (statement_of 19 o) → AsRay m fr n (statement_of 19 o) (ray_fields 19 o)
  unfolding statement_of ray_fields
  as_gather o uses = by_mode (o 0) o uses

  as_ray : (o : ℕ → ℕ) (k : ℕ) → RayKind k → UsesBelow n es (statement_of k o) → AsRay m fr n (statement_of k o) (ray_fields k o)
  as_ray o k (query e) uses = rw e (as_query o (rw e at uses))
  as_ray o k (load e) uses = rw e (as_load o (rw e at uses))
  as_ray o k (ballot e) uses = rw e (as_ballot o (rw e at uses))
  as_ray o k (gather e) uses = rw e (as_gather o (rw e at uses))
  as_ray o k (collective e) uses = rw e (as_collective o (rw e at uses))

-- the definition, once the target is known
module _ (m : Module) (fr : Frame) (e : ExpressionHandle) (asks : Walk (Unit {0})) (st : State) where
  ray-halts : {n : ℕ} {p : Place} → halt n p ≡ target m fr e st → halt n p ≡ ray m fr e asks st
  ray-halts is = sym (then_halt (λ found t. when_needed asks t.needed found) (sym is))

  module _ (t : Target) (is : went st t ≡ target m fr e st) where
    known : ray m fr e asks st ≡ when_needed asks t.needed st
    known = then_went (λ found t. when_needed asks t.needed found) (sym is)

    ray-none : t.needed ≡ gone → went st (StatementReq.RayQuery false) ≡ ray m fr e asks st
    unfolding when_needed
    ray-none h = sym (known ∙ rw h)

    ray_there : {p : PartReq} → t.needed ≡ there p → (asks st >> λ left. went left (StatementReq.RayQuery true)) ≡ ray m fr e asks st
    unfolding when_needed
    ray_there h = sym (known ∙ rw h)

module _ {bytes t s rs : List ℕ} {fr : declared.Frame} {row : Kinded} {sum : ℕ} (a : Arm bytes t s rs fr row sum) (kind : RayKind row.kind) (visits : ℕ) {x : Ray} (fields : x ≡ ray_fields row.kind (operand_at bytes row)) where
  abbrev statement : Statement
  statement = statement_of row.kind (operand_at bytes row)

  as_one : AsRay (module_of bytes t) (frame_of s rs fr) (length (function_at (module_of bytes t) fr.function.0).expressions) statement x
  as_one = rw fields (as_ray (module_of bytes t) (frame_of s rs fr) _ _ (operand_at bytes row) row.kind kind (arm_uses a _ refl))

  pub ray_below : RayBelow (length (function_at (module_of bytes t) fr.function.0).expressions) x
  ray_below = as_one.below

  pub ray_aims : Aiming bytes t s rs fr x.target
  ray_aims = record { sum = sum; begun = a.begun; there = as_one.below.target }

  module _ {aim : Result Aim Halt} {u : List ℕ} (d : Aims bytes t s rs fr x.target aim u) where
    pub ray_refuses : {stop : Halt} → aim ≡ Err stop → Leaves bytes t s rs fr statement visits (Err stop) u rs
    ray_refuses h =
        let f = subst (AimIs (module_of bytes t) (frame_of s rs fr) x.target (context_at (read s rs) fr.at) u) h d.by in
        record {
          by = λ call block rest g. record { by = ray-halts (module_of bytes t) (frame_of s rs fr) x.target as_one.asks _ (f _ refl) ∙ as_one.is call block _ };
        }

    same : read u rs ≡ read s rs
    same = kept_read rs d.kept a.begun.ready.memory.below

    after : Ready bytes t u rs fr.function.0 fr.at fr.held sum
    after = kept_ready a.begun.ready d.kept

    module _ {y : resolve.Target} {found : Option ℕ} (h : aim ≡ Ok (record { target = y; needed = found })) where
      aimed : Aimed (module_of bytes t) (frame_of s rs fr) x.target (context_at (read s rs) fr.at) u y found
      aimed = subst (AimIs (module_of bytes t) (frame_of s rs fr) x.target (context_at (read s rs) fr.at) u) h d.by

      abbrev need : Subpart
      need = store_required (context_at (read s rs) fr.at) (variable_of y.var) (part u y.part)

      pub ray_unneeded : found ≡ None → Leaves bytes t s rs fr statement visits (Ok (record { tally = (record { visits = visits; sum = sum }); required = false })) u rs
      ray_unneeded z =
          let none_needed : need ≡ gone = subst (Got u need) z aimed.needs in
          record {
            by = λ call block rest g.
                record {
                  by = record {
                    is =
                        rw (same, as_one.said false) (ray-none (module_of bytes t) (frame_of s rs fr) x.target as_one.asks _ _ (aimed.is _ refl) none_needed)
                        ∙ as_one.is call block _;
                    ready = after;
                    apart = others_apart (others_same refl same);
                  };
                };
          }

      pub ray_begins : Open bytes t u rs fr (Ok (record { visits = visits; sum = sum }))
      ray_begins = begins after

      pub ray_asks : {n : ℕ} → found ≡ Some n → {w z : Result Tally Halt} {r : Result Answer Halt} {s1 rs1 v vs : List ℕ}
          → Asked bytes t u rs fr (Ok (record { visits = visits; sum = sum })) (maybe_ask (module_of bytes t) fr.function.0 fr.held x.first) layout.all_slot w s1 rs1
          → Asked bytes t s1 rs1 fr w (maybe_ask (module_of bytes t) fr.function.0 fr.held x.second) layout.all_slot z v vs
          → r ≡ answer_of z true → Leaves bytes t s rs fr statement visits r v vs
      ray_asks {n} g {w} {z} {r} {s1} {rs1} {v} {vs} k l e =
          let needed = subst (Got u need) g aimed.needs in
          rw e
          (record {
            by = λ call block rest i.
                let totals : _ = i ∙ sym (ap totals_sum same) in
                ends (leaf_req statement) true z (others_apart (others_same refl same))
                (rw (same, as_one.said true)
                (ap (λ (y : Out (Unit {0})). y >> λ left. went left (StatementReq.RayQuery true)) (as_one.between (state_of t fr.function.0 fr.at (read s rs) rest visits))
                ∙ ray_there (module_of bytes t) (frame_of s rs fr) x.target as_one.asks _ _ (aimed.is _ refl) needed.1
                ∙ as_one.is call block _))
                (rw after.memory.first at (l.by u rs rest _ after.memory totals (k.by u rs rest _ after.memory totals (began rest after))));
          })
