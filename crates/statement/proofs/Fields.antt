-- The fields of a store, asked one after the other, and that the arm is the definition's: for both kinds at once, by what they have in common.
use Prim.Native.Nat.{ℕ}
use mathlib.Core.Path.{◌≡◌, refl, sym, ap, subst, ◌∙◌}
use mathlib.Core.Bool.{Bool, true, false}
use mathlib.Core.List.{List}
use mathlib.Core.Option.{Option, some, none as nothing}
use lib.ListN.{length, get_or}
use borrow.Author.Tests.{ne_eqb}
use Rattle.std.specs.Prelude.{Result, Ok, Err}
use Rattle.part.specs.PartReq.{all, exist}
use Rattle.part.specs.Store.{part}
use Rattle.module.specs.Module.{Module, Statement}
use Rattle.module.specs.Decode.{option_of, statement_of}
use Rattle.module.specs.Tables.{module_of}
use Rattle.access.specs.Access.{operand_at}
use Rattle.access.specs.declared.kinded.Kinded.{Kinded}
use Rattle.valid.specs.Valid.{UsesBelow}
use Rattle.walk.specs.State.{State, Out, went, Walk, ◌>>◌, ◌>>=◌}
use Rattle.walk.specs.Resolve.{function_at}
use Rattle.walk.specs.Expression.{add_expression}
use Rattle.walk.specs.StatementReq.{StatementReq}
use Rattle.walk.specs.Statement.{FunctionWalk, BlockWalk, Frame, ask, ask_optional, store, add_statement}
use Rattle.walk.proofs.Bind.{next_then, next_next, next_same, then_went, then_halt}
use Rattle.memory.specs.Layout as layout
use Rattle.memory.specs.Memory.{read}
use Rattle.state.specs.State.{state_of}
use Rattle.state.specs.Frame.{frame_of}
use Rattle.state.specs.declared.frame.Frame as declared
use Rattle.state.specs.declared.answer.Halt.{Halt}
use Rattle.state.specs.declared.answer.Tally.{Tally}
use Rattle.state.specs.declared.answer.Answer.{Answer}
use Rattle.statement.specs.Leaf.{leaf_req, Arm, Leaves}
use Rattle.statement.specs.Asks.{Asked, maybe_ask, answer_of}
use Rattle.statement.specs.Aim.{Aiming}
use Rattle.statement.specs.Stores.{StoreIs, Stores}
use Rattle.statement.specs.Fields.{StoreKind, plain, image, Fields, store_fields, FieldsBelow, Fielding, Fielded}
use Rattle.statement.proofs.Asking.{began, ends, optional_is}
use Rattle.statement.proofs.Uses.{arm_uses}

-- the four asks
module _ {bytes t s rs : List ℕ} {fr : declared.Frame} {x : Fields} {sum : ℕ} (q : Fielding bytes t s rs fr x sum) (visits : ℕ) where
  pub fields_asked : {a b c d : Result Tally Halt} {s1 rs1 s2 rs2 s3 rs3 u us : List ℕ}
      → Asked bytes t s rs fr (Ok (record { visits = visits; sum = sum })) (add_expression (module_of bytes t) fr.function.0 fr.held x.pointer) layout.exist_slot a s1 rs1
      → Asked bytes t s1 rs1 fr a (maybe_ask (module_of bytes t) fr.function.0 fr.held x.coordinate) layout.all_slot b s2 rs2
      → Asked bytes t s2 rs2 fr b (maybe_ask (module_of bytes t) fr.function.0 fr.held x.index) layout.exist_slot c s3 rs3
      → Asked bytes t s3 rs3 fr c (add_expression (module_of bytes t) fr.function.0 fr.held x.value) layout.ask d u us
      → Fielded bytes t s rs fr x visits d u us
  fields_asked k l m n = record {
    by = λ rest h.
        rw (q.ready.memory.first, q.ready.memory.second) at
        (n.by s rs rest _ q.ready.memory h
        (m.by s rs rest _ q.ready.memory h
        (l.by s rs rest _ q.ready.memory h (k.by s rs rest _ q.ready.memory h (began rest q.ready)))));
  }

-- the fields as they are read
pub image_fields : (o : ℕ → ℕ) {k a b d : ℕ} {c : Option ℕ} → k ≡ 15 → a ≡ o 0 → b ≡ o 1 → c ≡ option_of (o 2) → d ≡ o 3
    → ◌≡◌ {A = Fields} (record { pointer = a; coordinate = some b; index = c; value = d }) (store_fields k o)
unfolding store_fields
image_fields o e p q r z = rw (e, p, q, r, z)

pub plain_fields : (o : ℕ → ℕ) {k a b : ℕ} → (k ≡ 15 → ⊥) → a ≡ o 0 → b ≡ o 1
    → ◌≡◌ {A = Fields} (record { pointer = a; coordinate = nothing; index = nothing; value = b }) (store_fields k o)
unfolding store_fields
plain_fields o {k} e p q = rw (ne_eqb k 15 e, p, q)

-- what the arm of x has in common with a plain store: its fields, what is asked between pointer and value, and what is said of it
record AsStore (m : Module) (fr : Frame) (x : Statement) (y : Fields) : Type 0 where
  accessors : Walk (Unit {0})
  between : (st : State) → (maybe_ask m fr.function fr.held y.coordinate all st >> maybe_ask m fr.function fr.held y.index exist) ≡ accessors st
  is : (call : FunctionWalk) (block : BlockWalk) (st : State) → (store m fr y.pointer accessors y.value st >>= λ left b. went left (leaf_req x b)) ≡ add_statement m call block fr x st

plain_store : (m : Module) (fr : Frame) (o : ℕ → ℕ) → AsStore m fr (statement_of 12 o) (store_fields 12 o)
unfolding statement_of store_fields add_statement leaf_req maybe_ask
plain_store m fr o = record { accessors = λ asked. went asked tt; between = λ st. refl; is = λ call block st. refl }

image_store : (m : Module) (fr : Frame) (o : ℕ → ℕ) → AsStore m fr (statement_of 15 o) (store_fields 15 o)
unfolding statement_of store_fields add_statement leaf_req maybe_ask
image_store m fr o = record {
  accessors = λ asked. ask m fr (o 1) all asked >> ask_optional m fr (option_of (o 2)) exist;
  between = λ st.
      next_same (ask m fr (o 1) all st) _ _ (λ left. optional_is fr m (option_of (o 2)) exist left);
  is = λ call block st. refl;
}

plain_below : (o : ℕ → ℕ) (n : ℕ) (es : List Bool) → UsesBelow n es (statement_of 12 o) → FieldsBelow n (store_fields 12 o)
unfolding statement_of store_fields
plain_below o n es uses = record { pointer = uses.0; coordinate = tt; index = tt; value = uses.1 }

image_below : (o : ℕ → ℕ) (n : ℕ) (es : List Bool) → UsesBelow n es (statement_of 15 o) → FieldsBelow n (store_fields 15 o)
unfolding statement_of store_fields
image_below o n es uses = record { pointer = uses.0; coordinate = uses.1; index = uses.2; value = uses.3 }

module _ (o : ℕ → ℕ) {k : ℕ} where
  as_store : (m : Module) (fr : Frame) → StoreKind k → AsStore m fr (statement_of k o) (store_fields k o)
  as_store m fr (plain e) = rw e (plain_store m fr o)
  as_store m fr (image e) = rw e (image_store m fr o)

  fields_below : (n : ℕ) (es : List Bool) → StoreKind k → UsesBelow n es (statement_of k o) → FieldsBelow n (store_fields k o)
  fields_below n es (plain e) uses = rw e (plain_below o n es (rw e at uses))
  fields_below n es (image e) uses = rw e (image_below o n es (rw e at uses))

module _ {bytes t s rs : List ℕ} {fr : declared.Frame} {row : Kinded} {sum : ℕ} (a : Arm bytes t s rs fr row sum) (kind : StoreKind row.kind) (visits : ℕ) {x : Fields} (fields : x ≡ store_fields row.kind (operand_at bytes row)) where
  below : FieldsBelow (length (function_at (module_of bytes t) fr.function.0).expressions) x
  below = rw fields (fields_below (operand_at bytes row) _ _ kind (arm_uses a _ refl))

  pub store_aims : Aiming bytes t s rs fr x.pointer
  store_aims = record { sum = sum; begun = a.begun; there = below.pointer }

  as_plain : AsStore (module_of bytes t) (frame_of s rs fr) (statement_of row.kind (operand_at bytes row)) x
  as_plain = rw fields (as_store (operand_at bytes row) (module_of bytes t) (frame_of s rs fr) kind)

  module _ {need : Result Bool Halt} {u us : List ℕ} (d : Stores bytes t s rs fr x.pointer need u us) where
    pub store_refuses : {stop : Halt} → need ≡ Err stop
        → Leaves bytes t s rs fr (statement_of row.kind (operand_at bytes row)) visits (Err stop) u us
    store_refuses h =
        let f = subst (λ (y : Result Bool Halt). StoreIs bytes t s rs fr x.pointer y u us) h d.by in
        record {
          by = λ call block rest g.
              record {
                by = sym (then_halt (λ left b. went left (leaf_req (statement_of row.kind (operand_at bytes row)) b)) (sym (f as_plain.accessors x.value rest visits)))
                    ∙ as_plain.is call block _;
              };
        }

    pub store_unneeded : {b : Bool} → need ≡ Ok b → b ≡ false
        → Leaves bytes t s rs fr (statement_of row.kind (operand_at bytes row)) visits (Ok (record { tally = (record { visits = visits; sum = sum }); required = false })) u us
    store_unneeded h g =
        let f = subst (λ (y : Result Bool Halt). StoreIs bytes t s rs fr x.pointer y u us) (h ∙ ap (λ (b : Bool). Ok b) g) d.by in
        let l = f.0 sum a.begun.ready in
        record {
          by = λ call block rest g.
              record {
                by = record {
                  is =
                      sym (then_went (λ left b. went left (leaf_req (statement_of row.kind (operand_at bytes row)) b)) (sym (f.1 as_plain.accessors x.value rest visits)))
                      ∙ as_plain.is call block _;
                  ready = l.0;
                  apart = l.1;
                };
              };
        }

    module _ {b : Bool} (h : need ≡ Ok b) (g : b ≡ true) where
      needed : StoreIs bytes t s rs fr x.pointer (Ok true) u us
      needed = subst (λ (y : Result Bool Halt). StoreIs bytes t s rs fr x.pointer y u us) (h ∙ ap (λ (b : Bool). Ok b) g) d.by

      pub store-fields : Fielding bytes t u us fr x sum
      store-fields = record { ready = (needed.0 sum a.begun.ready).ready; below = below }

      pub store_asks : {w : Result Tally Halt} {r : Result Answer Halt} {v vs : List ℕ} → Fielded bytes t u us fr x visits w v vs → r ≡ answer_of w true
          → Leaves bytes t s rs fr (statement_of row.kind (operand_at bytes row)) visits r v vs
      store_asks {w} {r} {v} {vs} asked e =
          let l = needed.0 sum a.begun.ready in
          rw e
          (record {
            by = λ call block rest g.
                let pointer = add_expression (module_of bytes t) fr.function.0 fr.held x.pointer exist (state_of t fr.function.0 fr.at (read u us) rest visits) in
                let value = add_expression (module_of bytes t) fr.function.0 fr.held x.value (part u (get_or us layout.ask 0)) in
                let said : Bool → StatementReq = leaf_req (statement_of row.kind (operand_at bytes row)) in
                ends said true w l.apart
                (ap (λ (y : Out (Unit {0})). y >> value >> λ left. went left (said true))
                (next_next pointer _ _ ∙ next_same pointer _ as_plain.accessors as_plain.between)
                ∙ sym (next_then (pointer >> as_plain.accessors >> value) (λ left. went left true) (λ left b. went left (said b)))
                ∙ ap (λ (y : Out Bool). y >>= λ left b. went left (said b)) (needed.1 as_plain.accessors x.value rest visits)
                ∙ as_plain.is call block _)
                (asked.by rest (g ∙ sym l.totals));
          })
