-- The return part and the lists of a context that bytes mean, one after the other.
use Prim.Native.Nat.{ℕ}
use native.Mathlib.Omega.{arith}
use mathlib.Core.Path.{◌≡◌, refl, ◌∙◌}
use mathlib.Core.Bool.{Bool, true, false, cond}
use mathlib.Core.List.{List, [], ◌∷◌}
use mathlib.Core.Option.{Option, some, none as nothing}
use lib.ListN.{drop}
use Rattle.part.specs.PartReq.{PartReq}
use Rattle.context.specs.RequiredContext.{RequiredContext, return_entry}
use Rattle.request.specs.Fields.{fields, Read, malformed, got, ◌>>=◌, whole}
use Rattle.request.specs.Part.{read_return, read_variables}
use Rattle.request.specs.Context.{read_lists, read_context_body, is_context, context_of}

-- what came before a reading that went through
pub record Bound {A B : Type 0} (x : Read A) (f : A → List ℕ → Read B) (v : B) (gs : List ℕ) : Type 0 where
  pub value : A
  pub left : List ℕ
  pub is : x ≡ got value left
  pub then : f value left ≡ got v gs

pub bound : {A B : Type 0} (x : Read A) (f : A → List ℕ → Read B) {v : B} {gs : List ℕ} → (x >>= f) ≡ got v gs → Bound x f v gs
bound malformed f e = let z : ◌≡◌ {A = ℕ} 0 1 = cc in absurd (omega arith)
bound (got a fs) f e = record { value = a; left = fs; is = refl; then = e }

whole_some : {A : Type 0} (x : Read A) {v : A} → whole x ≡ some v → x ≡ got v []
unfolding whole
whole_some malformed e = let z : ◌≡◌ {A = ℕ} 0 1 = cc in absurd (omega arith)
whole_some (got a []) e = cc
whole_some (got a (f ∷ fs)) e = let z : ◌≡◌ {A = ℕ} 0 1 = cc in absurd (omega arith)

cond-some : {A : Type 0} (b : Bool) (x : Option A) {v : A} → cond b x nothing ≡ some v → (b ≡ true) × (x ≡ some v)
cond-some true x e = (refl, e)
cond-some false x e = let z : ◌≡◌ {A = ℕ} 0 1 = cc in absurd (omega arith)

pub record Accepted (b : List ℕ) (c : RequiredContext) : Type 0 where
  pub retval : Option PartReq
  pub lists : List ℕ
  pub args : List ℕ
  pub locals : List ℕ
  pub framed : is_context b ≡ true
  pub return_is : read_return (fields (drop 6 b)) ≡ got retval lists
  pub returned : c.retval ≡ return_entry retval
  pub globals_is : read_variables lists ≡ got c.globals args
  pub args_is : read_variables args ≡ got c.args locals
  pub locals_is : read_variables locals ≡ got c.locals []

pub accepted : {b : List ℕ} {c : RequiredContext} → context_of b ≡ some c → Accepted b c
unfolding context_of read_context_body read_lists
accepted {b} {c} e =
    let t = cond-some (is_context b) (whole (read_return (fields (drop 6 b)) >>= read_lists)) e in
    let r = bound (read_return (fields (drop 6 b))) read_lists (whole_some (read_return (fields (drop 6 b)) >>= read_lists) t.1) in
    let g = bound (read_variables r.left) _ r.then in
    let a = bound (read_variables g.left) _ g.then in
    let l = bound (read_variables a.left) _ a.then in
    let globals : g.value ≡ c.globals = cc in
    let args : a.value ≡ c.args = cc in
    let locals : l.value ≡ c.locals = cc in
    let none_left : l.left ≡ [] = cc in
    let returned : c.retval ≡ return_entry r.value = cc in
    record {
      retval = r.value;
      lists = r.left;
      args = g.left;
      locals = a.left;
      framed = t.0;
      return_is = r.is;
      returned = returned;
      globals_is = g.is ∙ rw globals;
      args_is = a.is ∙ rw args;
      locals_is = l.is ∙ rw (locals, none_left);
    }
