-- What `ok_or(e)?` says of the option, and `map_err(f)?` of the answer that it is called on.
use mathlib.Core.Path.{◌≡◌, refl, ap, subst, ◌∙◌}
use Rattle.std.specs.Prelude.{Option, Some, None, Result, Ok, Err, IsErrAnd}
use Rattle.std.specs.Option.{ok_or}
use Rattle.std.specs.Result.{result_ok, MatchResult}

module _ {T E : Type 0} {o : Option T} {r : Result T E} (is : o ≡ result_ok r) where
  pub there : {x : T} → r ≡ Ok x → o ≡ Some x
  there h = is ∙ ap result_ok h

  pub missing : {e : E} → r ≡ Err e → o ≡ None
  missing h = is ∙ ap result_ok h

error_is : {T E : Type 0} (o : Option T) {r : Result T E} {e k : E} → r ≡ ok_or o e → r ≡ Err k → k ≡ e
error_is None h i = cc
error_is (Some x) h i = cc

-- what the function then returns, where `?` turns k into f k, and where it passes it on
pub refuses_as : {T U E F : Type 0} (f : E → F) (o : Option T) {r : Result T E} {s : Result U F} {e k : E} → IsErrAnd s (λ x. x ≡ f k) → r ≡ ok_or o e → r ≡ Err k → s ≡ Err (f e)
refuses_as f o {s = Ok x} h a b = absurd h
refuses_as f o {s = Err x} h a b = ap (λ y. Err y) (h ∙ ap f (error_is o a b))

pub refuses : {T U E : Type 0} (o : Option T) {r : Result T E} {s : Result U E} {e k : E} → IsErrAnd s (λ x. x ≡ k) → r ≡ ok_or o e → r ≡ Err k → s ≡ Err e
refuses o h a b = refuses_as (λ x. x) o h a b

module _ {T E D : Type 0} (P : E → D → Type 0) {m : Result T D} where
  pub mapped : (r : Result T E) → MatchResult r (λ x. m ≡ Ok x) (λ e. IsErrAnd m (P e)) → {x : T} → m ≡ Ok x → r ≡ Ok x
  mapped (Ok y) h i = ap (λ z. Ok z) cc
  mapped (Err e) h i = absurd (subst (λ s. IsErrAnd s (P e)) i h)

  pub mapped_from : (r : Result T E) → MatchResult r (λ x. m ≡ Ok x) (λ e. IsErrAnd m (P e)) → {k : D} → m ≡ Err k → (e : E) × (r ≡ Err e) × P e k
  mapped_from (Ok y) h i = cc
  mapped_from (Err e) h i = (e, refl, subst (λ s. IsErrAnd s (P e)) i h)
