-- The first line, and the lines of a context, in four pieces.
use Prim.Native.Nat.{ℕ}
use mathlib.Core.Path.{◌≡◌}
use mathlib.Core.Bool.{Bool, true, false}
use mathlib.Core.List.{List, [], ◌∷◌, ◌++◌, append-nil}
use Rattle.part.specs.Store.{part}
use Rattle.context.specs.Contexts.{context_of}
use Rattle.context.specs.declared.required_context.RequiredContext.{RequiredContext as Pieces}
use Rattle.lines.specs.Text.{required_word, yes_word, no_word, required_text, global_word, arg_word, local_word, variables_text, retval_text, context_text}
use Rattle.lines.specs.declared.text.Text.{Text}
use Rattle.lines.specs.Wrote.{Fits, Writes}
use Rattle.lines.proofs.Writing.{texts, Rooms, rooms, writes_then}

pub required_yes : {b : Bool} → b ≡ true → required_text b ≡ required_word ++ (yes_word ++ (10 ∷ []))
unfolding required_text
required_yes e = rw e

pub required_no : {b : Bool} → b ≡ false → required_text b ≡ required_word ++ (no_word ++ (10 ∷ []))
unfolding required_text
required_no e = rw e

pub context_rooms : (s : List ℕ) (c : Pieces) {at : ℕ} → Fits at (context_text (context_of s c)) → Rooms at (variables_text global_word (part s c.globals) ∷ (retval_text (part s c.retval) ∷ (variables_text arg_word (part s c.args) ∷ (variables_text local_word (part s c.locals) ∷ []))))
unfolding texts context_text
context_rooms s c {at} f =
    rooms (variables_text global_word (part s c.globals) ∷ (retval_text (part s c.retval) ∷ (variables_text arg_word (part s c.args) ∷ (variables_text local_word (part s c.locals) ∷ [])))) f
    (rw (append-nil (variables_text local_word (part s c.locals))))

pub context_writes : (s : List ℕ) (c : Pieces) {u v x y z : Text} → Writes u v (variables_text global_word (part s c.globals)) → Writes v x (retval_text (part s c.retval)) → Writes x y (variables_text arg_word (part s c.args)) → Writes y z (variables_text local_word (part s c.locals)) → Writes u z (context_text (context_of s c))
unfolding context_text
context_writes s c v w x y = writes_then v (writes_then w (writes_then x y))
