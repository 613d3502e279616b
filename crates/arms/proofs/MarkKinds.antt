-- The own marks of a statement whose arm answers b, and whether it is required: kind by kind, and for a number past the last kind's.
use mathlib.Core.Path.{◌≡◌, refl}
use mathlib.Core.Bool.{Bool, true, false}
use mathlib.Core.List.{List, [], ◌∷◌}
use mathlib.Core.Logic.{◌⊎◌, inl, inr}
use Prim.Native.Nat.{ℕ, ◌<◌}
use native.Mathlib.Omega.{arith}
use Rattle.module.specs.Decode.{statement_of}
use Rattle.module.specs.Module.{Break as BreakStatement}
use Rattle.module.specs.KindNumbers.{statement_code}
use Rattle.module.specs.declared.kinds.StatementKind.{StatementKind}
use Rattle.module.specs.declared.kinds.StatementKind.TheVariants.{Emit, Block, If, Switch, Loop, Break, Continue, Return, Kill, ControlBarrier, MemoryBarrier, ImageAtomic, Store, Atomic, Call, ImageStore, RayQuery, WorkGroupUniformLoad, SubgroupBallot, SubgroupGather, SubgroupCollectiveOperation}
use Rattle.walk.specs.StatementReq.{mark, own_marks, required}
use Rattle.statement.specs.Leaf.{leaf_req}
use Rattle.marks.proofs.Counts.{by-kind}

module _ (b : Bool) (o : ℕ → ℕ) where
  abbrev own : ℕ → List ℕ
  own n = own_marks (leaf_req (statement_of n o) b)

  pub own_none : {k : StatementKind} → (k ≡ Emit) ⊎ ((k ≡ Block) ⊎ ((k ≡ Kill) ⊎ ((k ≡ ControlBarrier) ⊎ ((k ≡ MemoryBarrier) ⊎ ((k ≡ ImageAtomic) ⊎ (k ≡ Call)))))) → own (statement_code k) ≡ []
  unfolding statement_of leaf_req own_marks
  own_none (inl e) = rw e
  own_none (inr (inl e)) = rw e
  own_none (inr (inr (inl e))) = rw e
  own_none (inr (inr (inr (inl e)))) = rw e
  own_none (inr (inr (inr (inr (inl e))))) = rw e
  own_none (inr (inr (inr (inr (inr (inl e)))))) = rw e
  own_none (inr (inr (inr (inr (inr (inr e)))))) = rw e

  pub own_one : (k : StatementKind) → (k ≡ Emit → ⊥) → (k ≡ Block → ⊥) → (k ≡ Kill → ⊥) → (k ≡ ControlBarrier → ⊥) → (k ≡ MemoryBarrier → ⊥) → (k ≡ ImageAtomic → ⊥) → (k ≡ Call → ⊥) → own (statement_code k) ≡ mark b ∷ []
  unfolding statement_of leaf_req own_marks
  own_one Emit n0 n1 n2 n3 n4 n5 n6 = absurd (n0 refl)
  own_one Block n0 n1 n2 n3 n4 n5 n6 = absurd (n1 refl)
  own_one If n0 n1 n2 n3 n4 n5 n6 = refl
  own_one Switch n0 n1 n2 n3 n4 n5 n6 = refl
  own_one Loop n0 n1 n2 n3 n4 n5 n6 = refl
  own_one Break n0 n1 n2 n3 n4 n5 n6 = refl
  own_one Continue n0 n1 n2 n3 n4 n5 n6 = refl
  own_one Return n0 n1 n2 n3 n4 n5 n6 = refl
  own_one Kill n0 n1 n2 n3 n4 n5 n6 = absurd (n2 refl)
  own_one ControlBarrier n0 n1 n2 n3 n4 n5 n6 = absurd (n3 refl)
  own_one MemoryBarrier n0 n1 n2 n3 n4 n5 n6 = absurd (n4 refl)
  own_one ImageAtomic n0 n1 n2 n3 n4 n5 n6 = absurd (n5 refl)
  own_one Store n0 n1 n2 n3 n4 n5 n6 = refl
  own_one Atomic n0 n1 n2 n3 n4 n5 n6 = refl
  own_one Call n0 n1 n2 n3 n4 n5 n6 = absurd (n6 refl)
  own_one ImageStore n0 n1 n2 n3 n4 n5 n6 = refl
  own_one RayQuery n0 n1 n2 n3 n4 n5 n6 = refl
  own_one WorkGroupUniformLoad n0 n1 n2 n3 n4 n5 n6 = refl
  own_one SubgroupBallot n0 n1 n2 n3 n4 n5 n6 = refl
  own_one SubgroupGather n0 n1 n2 n3 n4 n5 n6 = refl
  own_one SubgroupCollectiveOperation n0 n1 n2 n3 n4 n5 n6 = refl

  abbrev is_required : ℕ → Bool
  is_required n = required (leaf_req (statement_of n o) b)

  pub kill_required : {k : StatementKind} → k ≡ Kill → true ≡ is_required (statement_code k)
  unfolding statement_of leaf_req required
  kill_required e = rw e

  pub never_required : {k : StatementKind} → (k ≡ Emit) ⊎ ((k ≡ ControlBarrier) ⊎ ((k ≡ MemoryBarrier) ⊎ ((k ≡ ImageAtomic) ⊎ (k ≡ Call)))) → false ≡ is_required (statement_code k)
  unfolding statement_of leaf_req required
  never_required (inl e) = rw e
  never_required (inr (inl e)) = rw e
  never_required (inr (inr (inl e))) = rw e
  never_required (inr (inr (inr (inl e)))) = rw e
  never_required (inr (inr (inr (inr e)))) = rw e

  pub as_arm : (k : StatementKind) → (k ≡ Emit → ⊥) → (k ≡ Kill → ⊥) → (k ≡ ControlBarrier → ⊥) → (k ≡ MemoryBarrier → ⊥) → (k ≡ ImageAtomic → ⊥) → (k ≡ Call → ⊥) → b ≡ is_required (statement_code k)
  unfolding statement_of leaf_req required
  as_arm Emit n0 n1 n2 n3 n4 n5 = absurd (n0 refl)
  as_arm Block n0 n1 n2 n3 n4 n5 = refl
  as_arm If n0 n1 n2 n3 n4 n5 = refl
  as_arm Switch n0 n1 n2 n3 n4 n5 = refl
  as_arm Loop n0 n1 n2 n3 n4 n5 = refl
  as_arm Break n0 n1 n2 n3 n4 n5 = refl
  as_arm Continue n0 n1 n2 n3 n4 n5 = refl
  as_arm Return n0 n1 n2 n3 n4 n5 = refl
  as_arm Kill n0 n1 n2 n3 n4 n5 = absurd (n1 refl)
  as_arm ControlBarrier n0 n1 n2 n3 n4 n5 = absurd (n2 refl)
  as_arm MemoryBarrier n0 n1 n2 n3 n4 n5 = absurd (n3 refl)
  as_arm ImageAtomic n0 n1 n2 n3 n4 n5 = absurd (n4 refl)
  as_arm Store n0 n1 n2 n3 n4 n5 = refl
  as_arm Atomic n0 n1 n2 n3 n4 n5 = refl
  as_arm Call n0 n1 n2 n3 n4 n5 = absurd (n5 refl)
  as_arm ImageStore n0 n1 n2 n3 n4 n5 = refl
  as_arm RayQuery n0 n1 n2 n3 n4 n5 = refl
  as_arm WorkGroupUniformLoad n0 n1 n2 n3 n4 n5 = refl
  as_arm SubgroupBallot n0 n1 n2 n3 n4 n5 = refl
  as_arm SubgroupGather n0 n1 n2 n3 n4 n5 = refl
  as_arm SubgroupCollectiveOperation n0 n1 n2 n3 n4 n5 = refl

  past : (n : ℕ) → 20 < n → statement_of n o ≡ BreakStatement
  unfolding statement_of
  past = by-kind 21 (λ k. 20 < k → statement_of k o ≡ BreakStatement) (λ h. absurd (omega arith), (λ h. absurd (omega arith), (λ h. absurd (omega arith), (λ h. absurd (omega arith), (λ h. absurd (omega arith), (λ h. absurd (omega arith), (λ h. absurd (omega arith), (λ h. absurd (omega arith), (λ h. absurd (omega arith), (λ h. absurd (omega arith), (λ h. absurd (omega arith), (λ h. absurd (omega arith), (λ h. absurd (omega arith), (λ h. absurd (omega arith), (λ h. absurd (omega arith), (λ h. absurd (omega arith), (λ h. absurd (omega arith), (λ h. absurd (omega arith), (λ h. absurd (omega arith), (λ h. absurd (omega arith), (λ h. absurd (omega arith), λ k h. refl)))))))))))))))))))))

  pub own_past : (n : ℕ) → 20 < n → own n ≡ mark b ∷ []
  unfolding leaf_req own_marks
  own_past n h = rw (past n h)

  pub required_past : (n : ℕ) → 20 < n → b ≡ is_required n
  unfolding leaf_req required
  required_past n h = rw (past n h)
