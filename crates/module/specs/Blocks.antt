-- The block rule, at a function's end: "A block's number is below its holder's, each held once; the last is the body."
use Rattle.std.specs.Prelude.{ℕ, zero, suc, ◌-◌, Bool, true, cond, ◌&&◌, List, [], ◌∷◌, ◌++◌, map, ltb, eqb, length, get_or}
use Rattle.module.specs.Module.{BlockHandle, BlockRange, Statement, Emit, Block, If, Switch, Loop, Break, Continue, Return, Kill, ControlBarrier, MemoryBarrier, ImageAtomic, Store, AtomicStatement, Call, ImageStore, RayQuery, WorkGroupUniformLoad, SubgroupBallot, SubgroupGather, SubgroupCollectiveOperation, Function}

-- the blocks that a statement holds
unfoldable pub held : Statement → List BlockHandle
held (Emit first last) = []
held (Block b) = b ∷ []
held (If condition accept reject) = accept ∷ reject ∷ []
held (Switch selector cases) = map (λ k. k.body) cases
held (Loop body continuing break_if) = body ∷ continuing ∷ []
held Break = []
held Continue = []
held (Return value) = []
held Kill = []
held ControlBarrier = []
held MemoryBarrier = []
held ImageAtomic = []
held (Store pointer value) = []
held (AtomicStatement pointer value result) = []
held (Call function arguments result) = []
held (ImageStore image coordinate array_index value) = []
held (RayQuery query) = []
held (WorkGroupUniformLoad pointer result) = []
held (SubgroupBallot result predicate) = []
held (SubgroupGather mode argument result) = []
held (SubgroupCollectiveOperation argument result) = []

-- the blocks that n statements hold, from the statement s on
unfoldable pub held_from : List Statement → ℕ → ℕ → List BlockHandle
held_from statements s zero = []
held_from statements s (suc n) = held (get_or statements s Break) ++ held_from statements (suc s) n

abbrev pub held_in : List Statement → BlockRange → List BlockHandle
held_in statements b = held_from statements b.first b.count

unfoldable pub all_below : ℕ → List BlockHandle → Bool
all_below b [] = true
all_below b (h ∷ hs) = ltb h b && all_below b hs

-- whether the statements of each of the blocks, the first of which has the number b, hold lower blocks only
unfoldable pub holders_above : List Statement → ℕ → List BlockRange → Bool
holders_above statements b [] = true
holders_above statements b (block ∷ blocks) = all_below b (held_in statements block) && holders_above statements (suc b) blocks

-- the blocks that the statements of these blocks hold
unfoldable pub held_in_all : List Statement → List BlockRange → List BlockHandle
held_in_all statements [] = []
held_in_all statements (block ∷ blocks) = held_in statements block ++ held_in_all statements blocks

-- how often h is held
unfoldable pub times : BlockHandle → List BlockHandle → ℕ
times h [] = 0
times h (k ∷ ks) = cond (eqb h k) (suc (times h ks)) (times h ks)

-- whether each of the n lowest blocks is held once
unfoldable pub each_once : ℕ → List BlockHandle → Bool
each_once zero hs = true
each_once (suc n) hs = eqb (times n hs) 1 && each_once n hs

-- A function has a body, which is its last block: every other is held once.
unfoldable pub block_rule : Function → Bool
block_rule f =
    ltb 0 (length f.blocks)
    && (holders_above f.statements 0 f.blocks && each_once (length f.blocks - 1) (held_in_all f.statements f.blocks))
