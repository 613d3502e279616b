-- Lists of asks, one after another (`all_then`): the slots below the last stay, so what is kept aside reaches what it reached before. A list that is past the
-- bound makes every longer one so (`all_full`).
use Prim.Native.Nat.{ℕ, zero, suc, ◌+◌, ◌-◌, ◌<◌, ◌≤◌}
use native.Mathlib.Omega.{arith}
use mathlib.Core.Path.{◌≡◌, refl, ap, ◌∙◌}
use mathlib.Core.Bool.{Bool, true, false}
use mathlib.Core.List.{List, [], ◌∷◌, ◌++◌}
use lib.ListN.{length, get_or}
use Rattle.part.specs.PartReq.{PartReq}
use Rattle.part.specs.Store.{top, part}
use Rattle.part.proofs.Distinct.{untrue}
use Rattle.clearance.specs.Scope.{Scope}
use Rattle.clearance.specs.Needs.{Ask, of_value}
use Rattle.pass.specs.Pass.{Carried, Passed, on, full, ◌>>=◌, asking, asking_all}
use Rattle.asked.specs.Within.{Within, EachWithin}
use Rattle.framed.specs.Kept.{AsksFine}
use Rattle.hold.specs.Hold.{held_by, in_slot}
use Rattle.hold.proofs.Reach.{reach_trans, reach_cons, reach_is}
use Rattle.hold.proofs.Slots.{held_reach, held_same}
use Rattle.standing.specs.Standing.{passed_by}
use Rattle.asking.specs.Asks.{Asks, step_of, ValueGiven}
use Rattle.operands.specs.AsksAll.{wanted_in, ListGiven, AsksAll}

-- the definition, of two lists
asking_both : (S : Scope) (aside : List PartReq) (ys xs : List Ask) (m : PartReq) (c : Carried) →
    asking_all S aside (ys ++ xs) m c ≡ (asking_all S aside xs m c >>= λ d k. asking_all S aside ys k d)
unfolding asking_all
asking_both S aside [] xs m c = go (asking_all S aside xs m c)
  where
    go : (o : Passed) → o ≡ (o >>= λ d k. on d k)
    go (on d k) = refl
    go full = refl
asking_both S aside (y ∷ ys) xs m c =
    ap (λ (o : Passed). o >>= λ d k. asking S aside y k d) (asking_both S aside ys xs m c) ∙ go (asking_all S aside xs m c)
  where
    go : (o : Passed) → ((o >>= λ d k. asking_all S aside ys k d) >>= λ d k. asking S aside y k d) ≡ (o >>= λ d k. (asking_all S aside ys k d >>= λ d k. asking S aside y k d))
    go (on d k) = refl
    go full = refl

-- what holds of the asks of a list holds of those of its parts
left_at : {S : Scope} (ys xs : List Ask) → EachWithin S (ys ++ xs) → (j : ℕ) (d : Ask) → j < length ys → Within S (get_or ys j d)
left_at [] xs w j d l = absurd (omega arith)
left_at (y ∷ ys) xs w zero d l = w.each 0 d (omega arith)
left_at (y ∷ ys) xs w (suc j) d l = left_at ys xs (record { each = λ j d l. w.each (suc j) d (omega arith) }) j d (omega arith)

each_left : {S : Scope} (ys xs : List Ask) → EachWithin S (ys ++ xs) → EachWithin S ys
each_left ys xs w = record { each = left_at ys xs w }

each_right : {S : Scope} (ys xs : List Ask) → EachWithin S (ys ++ xs) → EachWithin S xs
each_right [] xs w = w
each_right (y ∷ ys) xs w = each_right ys xs (record { each = λ j d l. w.each (suc j) d (omega arith) })

fine_left : (ys xs : List Ask) → AsksFine (ys ++ xs) → AsksFine ys
fine_left [] xs f = tt
fine_left (y ∷ ys) xs f = (f.0, fine_left ys xs f.1)

fine_right : (ys xs : List Ask) → AsksFine (ys ++ xs) → AsksFine xs
fine_right [] xs f = f
fine_right (y ∷ ys) xs f = fine_right ys xs f.1

module _ {S : Scope} {s rs : List ℕ} {n : ℕ} where
  -- the asks of a longer list that come first
  pub given_right : (ys : List Ask) {xs : List Ask} → ListGiven S (ys ++ xs) s rs n → ListGiven S xs s rs n
  given_right ys {xs} g = record {
    read = g.read;
    judged = g.judged;
    live = g.live;
    two = g.two;
    spare = g.spare;
    need = g.need;
    within = each_right ys xs g.within;
    fine = fine_right ys xs g.fine;
  }

  -- no ask
  pub all_none : {xs : List Ask} → ListGiven S xs s rs n → AsksAll S [] s rs n s rs true
  unfolding asking_all
  all_none g = record {
    cells = refl;
    slots = refl;
    live = λ _. g.live;
    kept = λ _ j l. refl;
    need = λ _. g.need;
    is = λ aside c h. refl;
  }

  -- one ask
  pub all_one : {xs : List Ask} {x : Ask} {t us : List ℕ} {r : Bool} → ListGiven S xs s rs n → Asks S (step_of S x) s rs n t us r → AsksAll S (x ∷ []) s rs n t us r
  unfolding asking_all
  all_one g a = record {
    cells = a.cells;
    slots = a.slots;
    live = a.live;
    kept = a.kept;
    need = a.need;
    is = λ aside c h.
        let e : n - 1 + 1 ≡ n = omega (arith, g.two) in
        a.is aside c (reach_trans (rw e at (held_reach s rs (n - 1) (omega (arith, g.two, g.spare)))) (reach_cons (in_slot s rs (n - 1)) h));
  }

  module _ {xs : List Ask} {t us : List ℕ} {r : Bool} (a : AsksAll S xs s rs n t us r) where
    -- past the bound
    pub all_full : (ys : List Ask) → r ≡ false → AsksAll S (ys ++ xs) s rs n t us false
    all_full ys e = record {
      cells = a.cells;
      slots = a.slots;
      live = λ z. untrue z;
      kept = λ z. untrue z;
      need = λ z. untrue z;
      is = λ aside c h.
          asking_both S aside ys xs (in_slot s rs (n - 1)) c
          ∙ ap (λ (o : Passed). o >>= λ d k. asking_all S aside ys k d) (a.is aside c h ∙ ap (λ (b : Bool). passed_by b c (in_slot t us (n - 1))) e);
    }

    module _ (e : r ≡ true) where
      -- the part that is needed stays
      wanted_same : 2 ≤ n → wanted_in t us n ≡ wanted_in s rs n
      wanted_same h = a.kept e (n - 2) (omega arith)

      -- the asks Y, which may speak of that part, after those of xs
      module _ (Y : PartReq → List Ask) where
        pub given_next : (zs : List Ask) → ListGiven S (zs ++ (Y (wanted_in s rs n) ++ xs)) s rs n → ListGiven S (Y (wanted_in t us n)) t us n
        given_next zs g =
            let y = Y (wanted_in s rs n) in
            rw (wanted_same g.two)
            (record {
              read = g.read;
              judged = g.judged;
              live = a.live e;
              two = g.two;
              spare = omega (arith, g.spare, a.slots);
              need = a.need e;
              within = each_left y xs (each_right zs (y ++ xs) g.within);
              fine = fine_left y xs (fine_right zs (y ++ xs) g.fine);
            })

        pub all_then : {v vs : List ℕ} {q : Bool} → 2 ≤ n → n ≤ length rs → AsksAll S (Y (wanted_in t us n)) t us n v vs q → AsksAll S (Y (wanted_in s rs n) ++ xs) s rs n v vs q
        all_then {v} {vs} {q} two few b =
            let d = rw (wanted_same two) at b in
            record {
              cells = b.cells ∙ a.cells;
              slots = b.slots ∙ a.slots;
              live = b.live;
              kept = λ z j l. b.kept z j l ∙ a.kept e j l;
              need = b.need;
              is = λ aside c h.
                  let held : held_by t us (n - 1) ≡ held_by s rs (n - 1) = held_same s rs t us (n - 1) (omega arith) (omega (arith, a.slots)) (λ j l. a.kept e j (omega arith)) in
                  asking_both S aside (Y (wanted_in s rs n)) xs (in_slot s rs (n - 1)) c
                  ∙ (ap (λ (o : Passed). o >>= λ d k. asking_all S aside (Y (wanted_in s rs n)) k d) (a.is aside c h ∙ ap (λ (b : Bool). passed_by b c (in_slot t us (n - 1))) e)
                  ∙ d.is aside c (reach_trans (reach_is held) h));
            }

      -- a list that does not speak of the part
      pub list_next : (zs : List Ask) {ys : List Ask} → ListGiven S (zs ++ (ys ++ xs)) s rs n → ListGiven S ys t us n
      list_next zs {ys} g = given_next (λ p. ys) zs g

      pub list_then : {zs ys : List Ask} {v vs : List ℕ} {q : Bool} → ListGiven S zs s rs n → AsksAll S ys t us n v vs q → AsksAll S (ys ++ xs) s rs n v vs q
      list_then {ys = ys} g b = all_then (λ p. ys) g.two (omega (arith, g.spare)) b

      -- one ask of that part
      pub same_next : (zs : List Ask) {x : ℕ} → ListGiven S (zs ++ (of_value x (wanted_in s rs n) ∷ xs)) s rs n → ListGiven S (of_value x (wanted_in t us n) ∷ []) t us n
      same_next zs {x} g = given_next (λ p. of_value x p ∷ []) zs g

      pub same_then : {zs : List Ask} {x : ℕ} {v vs : List ℕ} {q : Bool} → ListGiven S zs s rs n → AsksAll S (of_value x (wanted_in t us n) ∷ []) t us n v vs q →
          AsksAll S (of_value x (wanted_in s rs n) ∷ xs) s rs n v vs q
      same_then {x = x} g b = all_then (λ p. of_value x p ∷ []) g.two (omega (arith, g.spare)) b

-- One value

module _ {S : Scope} {s rs : List ℕ} {n v : ℕ} {p : PartReq} (g : ListGiven S (of_value v p ∷ []) s rs n) {x : ℕ} (is : x ≡ v) (a : ℕ) (e : part s a ≡ p) where
  pub value_given : a < top s → ValueGiven S s rs n x a
  value_given l =
      rw is
      (record {
        read = g.read;
        judged = g.judged;
        live = g.live;
        hand = omega (arith, g.two);
        spare = g.spare;
        need = g.need;
        piece = l;
        ascends = rw e g.fine.0;
        within = rw e (g.within.each 0 (of_value v p) (omega arith));
      })

  pub value_all : {t us : List ℕ} {r : Bool} → Asks S (step_of S (of_value x (part s a))) s rs n t us r → AsksAll S (of_value v p ∷ []) s rs n t us r
  value_all d = all_one g (rw (is, e) at d)

-- the part that is needed, and all
pub wanted_piece : {S : Scope} {xs : List Ask} {s rs : List ℕ} {n : ℕ} → ListGiven S xs s rs n → get_or rs (n - 2) 0 < top s
wanted_piece {n = n} g = g.live.loose.pieces (n - 2) (omega (arith, g.two))

pub all_piece : {S : Scope} {xs : List Ask} {s rs : List ℕ} {n : ℕ} → ListGiven S xs s rs n → 0 < top s
all_piece g = omega (arith, g.live.loose.good.base)
