-- The arms that ask nothing: what each leaves is the definition's.
use Prim.Native.Nat.{ℕ, ◌+◌, ◌<◌, ◌≤◌}
use native.Mathlib.Omega.{arith}
use mathlib.Core.Path.{◌≡◌, refl, ap, ◌∙◌}
use mathlib.Core.Bool.{Bool, true, false}
use mathlib.Core.List.{List}
use lib.ListN.{length, get_or}
use Rattle.std.specs.Prelude.{Ok, Err}
use Rattle.field.specs.declared.refusal.Refusal.TheVariants.{Panic}
use Rattle.module.specs.Module.{Statement, Break, Continue, Kill, ControlBarrier, MemoryBarrier, ImageAtomic}
use Rattle.module.specs.Tables.{module_of}
use Rattle.walk.specs.State.{State, went, with_context}
use Rattle.walk.specs.Statement.{FunctionWalk, BlockWalk, add_statement}
use Rattle.memory.specs.Memory.{read, context_at}
use Rattle.memory.specs.Stretches.{four_set}
use Rattle.memory.proofs.Runs.{copy_read, four_memory, four_long}
use Rattle.state.specs.State.{Rest, state_of}
use Rattle.state.specs.Frame.{Begun, frame_of}
use Rattle.state.specs.declared.answer.Place.TheVariants as place
use Rattle.state.specs.declared.frame.Frame.{Frame}
use Rattle.state.proofs.Others.{others_same, others_apart}
use Rattle.statement.specs.Leaf.{leaf_req, Leaves}
use Rattle.statement.proofs.Placed.{Placed, placed_state, placed_ready, placed_others}

module _ {bytes t s rs : List ℕ} {fr : Frame} {sum : ℕ} (b : Begun bytes t s rs fr sum) (visits : ℕ) where
  base_inside : fr.base + 4 ≤ length rs
  base_inside = omega (arith, b.base_below, b.ready.high)

  -- nothing is done
  stays : (x : Statement) (r : Bool) → ((call : FunctionWalk) (block : BlockWalk) (st : State) → went st (leaf_req x r) ≡ add_statement (module_of bytes t) call block (frame_of s rs fr) x st)
      → Leaves bytes t s rs fr x visits (Ok (record { tally = (record { visits = visits; sum = sum }); required = r })) s rs
  stays x r is = record {
    by = λ call block rest h. record { by = record { is = is call block _; ready = b.ready; apart = others_apart (others_same refl refl) } };
  }

  pub kill_stays : Leaves bytes t s rs fr Kill visits (Ok (record { tally = (record { visits = visits; sum = sum }); required = true })) s rs
  unfolding add_statement leaf_req
  kill_stays = stays Kill true (λ call block st. refl)

  pub control_stays : Leaves bytes t s rs fr ControlBarrier visits (Ok (record { tally = (record { visits = visits; sum = sum }); required = false })) s rs
  unfolding add_statement leaf_req
  control_stays = stays ControlBarrier false (λ call block st. refl)

  pub memory_stays : Leaves bytes t s rs fr MemoryBarrier visits (Ok (record { tally = (record { visits = visits; sum = sum }); required = false })) s rs
  unfolding add_statement leaf_req
  memory_stays = stays MemoryBarrier false (λ call block st. refl)

  -- a refusal
  pub image_atomic_halts : Leaves bytes t s rs fr ImageAtomic visits (Err (record { refusal = Panic; place = place.Statement fr.function fr.statement })) s rs
  unfolding add_statement
  image_atomic_halts = record { by = λ call block rest h. record { by = refl } }

  -- the block's base is the context then
  module _ {us : List ℕ} (e : us ≡ four_set rs fr.at (get_or rs fr.base 0) (get_or rs (fr.base + 1) 0) (get_or rs (fr.base + 2) 0) (get_or rs (fr.base + 3) 0)) where
    placed : Placed s rs fr.at (context_at (read s rs) fr.base) s us
    placed =
        let low : (k : ℕ) → k < 4 → get_or rs (fr.base + k) 0 < _ = λ k l. b.ready.memory.below (fr.base + k) (omega (arith, base_inside)) in
        let z : fr.base + 0 ≡ fr.base = omega arith in
        rw e
        (record {
          memory = four_memory fr.at _ _ _ _ b.ready.memory (omega (arith, b.ready.low)) b.ready.high (rw z at (low 0 (omega arith)), (low 1 (omega arith), (low 2 (omega arith), low 3 (omega arith))));
          reads = copy_read s rs fr.base fr.at base_inside;
          long = four_long rs fr.at _ _ _ _;
        })

    pub leaves : (x : Statement) → ((call : FunctionWalk) (block : BlockWalk) (rest : Rest) → went (with_context (frame_of s rs fr).base (state_of t fr.function.0 fr.at (read s rs) rest visits)) (leaf_req x fr.break_required) ≡ add_statement (module_of bytes t) call block (frame_of s rs fr) x (state_of t fr.function.0 fr.at (read s rs) rest visits))
        → Leaves bytes t s rs fr x visits (Ok (record { tally = (record { visits = visits; sum = sum }); required = fr.break_required })) s us
    leaves x is = record {
      by = λ call block rest h.
          record {
            by = record {
              is = ap (λ (st : State). went st (leaf_req x fr.break_required)) (placed_state b.ready placed rest visits) ∙ is call block rest;
              ready = placed_ready b.ready placed (omega (arith, b.few, b.base_few));
              apart = others_apart (placed_others b.ready placed);
            };
          };
    }

    pub break_leaves : Leaves bytes t s rs fr Break visits (Ok (record { tally = (record { visits = visits; sum = sum }); required = fr.break_required })) s us
    unfolding add_statement leaf_req
    break_leaves = leaves Break (λ call block rest. refl)

    pub continue_leaves : Leaves bytes t s rs fr Continue visits (Ok (record { tally = (record { visits = visits; sum = sum }); required = fr.break_required })) s us
    unfolding add_statement leaf_req
    continue_leaves = leaves Continue (λ call block rest. refl)
