-- The statements of a function, and where their marks stand.
use Rattle.std.specs.Prelude.{ℕ, zero, suc, pred, List, [], ◌∷◌, length, get_or, set}
use Rattle.std.proofs.Math.Option.{Option, some, none as nothing}
use Rattle.module.specs.Module.{FunctionHandle, BlockHandle, BlockRange, Module, SwitchCase, Statement, Emit, Block, If, Switch, Loop, Break, Continue, Return, Kill, ControlBarrier, MemoryBarrier, ImageAtomic, Store, AtomicStatement, Call, ImageStore, RayQuery, WorkGroupUniformLoad, SubgroupBallot, SubgroupGather, SubgroupCollectiveOperation}
use Rattle.module.specs.Knot.{knot}
use Rattle.module.specs.Marks.{marks_before}
use Rattle.walk.specs.Resolve.{function_at}

-- all marks of a function
unfoldable pub stretch : Module → FunctionHandle → ℕ
stretch m f = let ss = (function_at m f).statements in marks_before ss (length ss)

-- the bytes of the second from the position `from` on
unfoldable pub write_marks : List ℕ → (from : ℕ) → List ℕ → List ℕ
write_marks marks from [] = marks
write_marks marks from (b ∷ bs) = write_marks (set marks from b) (suc from) bs

-- marks joined, as `BlockReq::add` joins them
unfoldable pub add_mark : ℕ → ℕ → ℕ
add_mark zero b = b
add_mark (suc a) b = 1

unfoldable pub add_marks : List ℕ → List ℕ → List ℕ
add_marks [] ms = []
add_marks (a ∷ as₁) [] = []
add_marks (a ∷ as₁) (b ∷ bs) = add_mark a b ∷ add_marks as₁ bs

-- A statement and a block by number, as `function_at`.
unfoldable pub statement_at : Module → FunctionHandle → ℕ → Statement
statement_at m f s = get_or (function_at m f).statements s Kill

unfoldable pub block_at : Module → FunctionHandle → BlockHandle → BlockRange
block_at m f b = get_or (function_at m f).blocks b (record { first = 0; count = 0 })

-- the body: the last block
unfoldable pub body_of : Module → FunctionHandle → BlockHandle
body_of m f = pred (length (function_at m f).blocks)

abbrev pub or_else : Option ℕ → Option ℕ → Option ℕ
or_else nothing b = b
or_else (some s) b = some s

-- of the last case first
unfoldable pub ray_of_cases : (BlockHandle → Option ℕ) → List SwitchCase → Option ℕ
ray_of_cases w [] = nothing
ray_of_cases w (c ∷ cs) = or_else (ray_of_cases w cs) (w c.body)

-- with w the first of a block, the first of statement s, where `BlockReq::add` panics at two RayQuery
unfoldable pub ray_of : (BlockHandle → Option ℕ) → ℕ → Statement → Option ℕ
ray_of w s (Emit first last) = nothing
ray_of w s (Block b) = w b
ray_of w s (If condition accept reject) = or_else (w accept) (w reject)
ray_of w s (Switch selector cases) = ray_of_cases w cases
ray_of w s (Loop body continuing break_if) = or_else (w body) (w continuing)
ray_of w s Break = nothing
ray_of w s Continue = nothing
ray_of w s (Return value) = nothing
ray_of w s Kill = nothing
ray_of w s ControlBarrier = nothing
ray_of w s MemoryBarrier = nothing
ray_of w s ImageAtomic = nothing
ray_of w s (Store pointer value) = nothing
ray_of w s (AtomicStatement pointer value result) = nothing
ray_of w s (Call function arguments result) = nothing
ray_of w s (ImageStore image coordinate array_index value) = nothing
ray_of w s (RayQuery query) = some s
ray_of w s (WorkGroupUniformLoad pointer result) = some s
ray_of w s (SubgroupBallot result predicate) = some s
ray_of w s (SubgroupGather mode argument result) = some s
ray_of w s (SubgroupCollectiveOperation argument result) = some s

-- the first of n statements from s on
unfoldable pub ray_from : Module → FunctionHandle → (BlockHandle → Option ℕ) → (s n : ℕ) → Option ℕ
ray_from m f w s zero = nothing
ray_from m f w s (suc n) = or_else (ray_of w s (statement_at m f s)) (ray_from m f w (suc s) n)

-- The first statement of a block whose marks `add` does not join: a RayQuery, in the order in which it goes through them.
unfoldable pub first_ray : Module → FunctionHandle → BlockHandle → Option ℕ
first_ray m f = knot (λ w b. ray_from m f w (block_at m f b).first (block_at m f b).count) nothing
