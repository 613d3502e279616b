-- What a stretch of a pass does to what is carried, as five things joined to its five fields, and how stretches follow each other: field by
-- field, by the laws of the tests and of the lowest number.
use Prim.Native.Nat.{ℕ, zero, suc}
use mathlib.Core.Path.{◌≡◌, refl, sym, ap, ◌∙◌}
use mathlib.Core.Bool.{Bool, true, false, cond, not, ◌&&◌, ◌||◌, and_assoc, or_assoc}
use mathlib.Core.List.{List, [], ◌∷◌, ◌++◌}
use mathlib.Core.Option.{Option}
use Rattle.part.specs.PartReq.{PartReq, contains, over}
use Rattle.clearance.specs.Needs.{each, concat, through, around, Table, join_at}
use Rattle.clearance.specs.Judged.{lower}
use Rattle.pass.specs.Pass.{too_many, Carried, point, blame, enter, lowest_with}

carried_is : {t u : Table} {f g : Option ℕ} {h i d e w v : Bool} → t ≡ u → f ≡ g → h ≡ i → d ≡ e → w ≡ v →
    ◌≡◌ {A = Carried} (record { table = t; fault = f; held = h; deep = d; wide = w }) (record { table = u; fault = g; held = i; deep = e; wide = v })
carried_is p q r s o = cc

-- the tests in the order in which a pass makes them, and as the definition has them
or_around : (x y s d : Bool) → y || (s || (x || d)) ≡ x || (y || s) || d
or_around true true s d = refl
or_around true false true d = refl
or_around true false false d = refl
or_around false true s d = refl
or_around false false s d = refl

or_between : (x s t d : Bool) → s || (x || (t || d)) ≡ x || (s || t) || d
or_between true true t d = refl
or_between true false t d = refl
or_between false true t d = refl
or_between false false t d = refl

or_each : (x y d : Bool) → x || not y || d ≡ not (not x && y) || d
or_each true y d = refl
or_each false y d = refl

lowest_append : (xs ys : List ℕ) (o : Option ℕ) → lowest_with xs (lowest_with ys o) ≡ lowest_with (xs ++ ys) o
unfolding lowest_with
lowest_append [] ys o = refl
lowest_append (x ∷ xs) ys o = ap (lower x) (lowest_append xs ys o)

-- joined: to the table by g, the statements ns, whether needs held, and the two flags
unfoldable pub carry : (Table → Table) → List ℕ → (held deep wide : Bool) → Carried → Carried
carry g ns h d w c =
    record { table = g c.table; fault = lowest_with ns c.fault; held = h && c.held; deep = d || c.deep; wide = w || c.wide }

-- nothing
pub carry-nothing : (c : Carried) → c ≡ carry (λ t. t) [] true false false c
unfolding carry lowest_with
carry-nothing c = refl

module _ (g : Table → Table) (ns : List ℕ) (h d w : Bool) where
  -- a stretch with the needs n after it and m before it
  pub carry-around : (n m : PartReq) (c : Carried) →
      point m (carry g ns h d w (point n c)) ≡ carry g ns h (around over n m d) (around too_many n m w) c
  unfolding carry point around
  carry-around n m c = carried_is refl refl refl (or_around (over n) (over m) d c.deep) (or_around (too_many n) (too_many m) w c.wide)

  -- an unmarked statement: nothing where it obeys its rule, else a stretch and the fault i
  pub carry-unmarked : (q : Bool) (i : ℕ) (c : Carried) →
      cond q c (blame i (carry g ns h d w c)) ≡ carry (λ t. cond q t (g t)) (cond q [] (i ∷ ns)) (cond q true h) (cond q false d) (cond q false w) c
  unfolding carry blame lowest_with
  carry-unmarked true i c = refl
  carry-unmarked false i c = refl

  -- a stretch, and then the start of a loop's body
  pub carry-enter : (n : ℕ) (again m : PartReq) (c : Carried) →
      enter n again m (carry g ns h d w c) ≡ carry (λ t. join_at n m (g t)) ns (contains again m && h) d w c
  unfolding carry enter
  carry-enter n again m c = carried_is refl refl (sym (and_assoc (contains again m) h c.held)) refl refl

-- one stretch and then another
pub carry-both : (g g' : Table → Table) (ns ns' : List ℕ) (h h' d d' w w' : Bool) (c : Carried) →
    carry g ns h d w (carry g' ns' h' d' w' c) ≡ carry (λ t. g (g' t)) (ns ++ ns') (h && h') (d || d') (w || w') c
unfolding carry
carry-both g g' ns ns' h h' d d' w w' c =
    carried_is refl (lowest_append ns ns' c.fault) (sym (and_assoc h h' c.held)) (sym (or_assoc d d' c.deep)) (sym (or_assoc w w' c.wide))

-- one and then another, with the needs n at the point between
pub carry-between : (g g' : Table → Table) (ns ns' : List ℕ) (h h' d d' w w' : Bool) (n : PartReq) (c : Carried) →
    carry g ns h d w (point n (carry g' ns' h' d' w' c))
    ≡ carry (λ t. g (g' t)) (ns ++ ns') (h && h') (over n || (d || d')) (too_many n || (w || w')) c
unfolding carry point
carry-between g g' ns ns' h h' d d' w w' n c =
    carried_is refl (lowest_append ns ns' c.fault) (sym (and_assoc h h' c.held)) (or_between (over n) d d' c.deep) (or_between (too_many n) w w' c.wide)

carry-each : (g : Table → Table) (ns : List ℕ) (h d e w v : Bool) (c : Carried) →
    carry g ns h (d || not e) (w || not v) c ≡ carry g ns h (not (not d && e)) (not (not w && v)) c
unfolding carry
carry-each g ns h d e w v c = carried_is refl refl refl (or_each d e c.deep) (or_each w v c.wide)

-- n stretches, ascending
pub carry-through : (n : ℕ) (g : ℕ → Table → Table) (ns : ℕ → List ℕ) (h d w : ℕ → Bool) (c : Carried) →
    through n (λ i. carry (g i) (ns i) (h i) (d i) (w i)) c
    ≡ carry (through n g) (concat n ns) (each n h) (not (each n (λ i. not (d i)))) (not (each n (λ i. not (w i)))) c
unfolding through concat each
carry-through zero g ns h d w c = unfold carry lowest_with in refl
carry-through (suc n) g ns h d w c =
    ap (carry (g n) (ns n) (h n) (d n) (w n)) (carry-through n g ns h d w c)
    ∙ carry-both (g n) (through n g) (ns n) (concat n ns) (h n) (each n h) (d n) _ (w n) _ c
    ∙ carry-each (λ t. g n (through n g t)) (ns n ++ concat n ns) (h n && each n h) (d n) _ (w n) _ c
