-- A loop in memory: the needs after it are kept aside, where a break leads; above them what stands after its continuing block, then what stands before it, where a continue
-- leads; and above that the needs in its body.
use Prim.Native.Nat.{ℕ, zero, suc, ◌+◌, ◌-◌, ◌<◌, ◌≤◌}
use native.Mathlib.Omega.{arith}
use native.Mathlib.Decide.{ℕ_discrete}
use mathlib.Core.Path.{◌≡◌, refl, sym, ap, ◌∙◌}
use mathlib.Core.Bool.{Bool, true, false, not}
use mathlib.Core.List.{List, [], ◌∷◌}
use mathlib.Core.Logic.{⊎_elim}
use mathlib.Core.Option.{Option}
use lib.ListN.{length, get_or, set, length-set}
use borrow.Author.Tests.{eq-eqb, ne_eqb}
use Rattle.part.specs.PartReq.{PartReq, add}
use Rattle.part.proofs.Equations.{never}
use Rattle.module.specs.Module.{ExpressionHandle}
use Rattle.clearance.specs.Scope.{Scope}
use Rattle.clearance.specs.Tree.{Tree, loop}
use Rattle.clearance.specs.Needs.{Exit, next, upon, out_break, out_continue, of_case, of_continuing, of_body, turning, after_continuing, Table, join_at}
use Rattle.clearance.proofs.Entry.{join-at}
use Rattle.pass.specs.Pass.{Carried, Passed, on, ◌>>=◌, enter, pointed, within, turning_on, entering, pass_inside}
use Rattle.pass.proofs.Pass.{says_turning}
use Rattle.hold.specs.Hold.{in_slot, Reach}
use Rattle.hold.proofs.Reach.{reach_trans, reach_is}
use Rattle.standing.specs.Slots.{table_size, aside_of, Ready}
use Rattle.standing.specs.Standing.{setting_of, Carries, TableIn, Targets, Stands, Went, Walked, Keeps, passed_by, Begun, Entered, inside, around}
use Rattle.standing.specs.Passing.{Passing}
use Rattle.strays.specs.Exits.{body_to}
use Rattle.standing.specs.Exits.{Exits}
use Rattle.standing.proofs.Aside.{beside_high, beside_low, aside_same}
use Rattle.standing.proofs.Stands.{keeps_trans, leads_on, stands_below, stands_one, stands_two}
use Rattle.standing.proofs.Readies.{slot_other, slot_same, ready_open}
use Rattle.standing.proofs.Walks.{walked_full, walked_on}
use Rattle.standing.proofs.Arms.{table_kept}
use Rattle.standing.proofs.Cases.{case_exits}

-- the exits of a loop's body
abbrev pub body_exits : ℕ → Exits → Exits
body_exits n x = body_to (n - 1) n x

-- a table with needs joined to one loop's: how long it is
join_long : (n : ℕ) (m : PartReq) (t : Table) (k : ℕ) → n < k → length t ≤ k → length (join_at n m t) ≤ k
unfolding join_at
join_long zero m [] k h l = omega arith
join_long (suc n) m [] zero h l = absurd (omega arith)
join_long (suc n) m [] (suc k) h l = let a = join_long n m [] k (omega arith) (omega arith) in omega arith
join_long zero m (x ∷ t) k h l = l
join_long (suc n) m (x ∷ t) zero h l = absurd (omega arith)
join_long (suc n) m (x ∷ t) (suc k) h l = let a = join_long n m t k (omega arith) (omega arith) in omega arith

-- what stands after continuing, where the bound is not passed
turning-is : (S : Scope) (aside : List PartReq) (again : PartReq) (x : Option ExpressionHandle) (exit : PartReq) (c : Carried) (m : PartReq) →
    turning_on S aside again x exit c ≡ on c m → m ≡ turning S again x exit
turning-is S aside again x exit c m e = ⊎_elim (λ i. never cc) (λ i. cc) (says_turning S aside again x exit c)

module _ {S : Scope} {s rs : List ℕ} {n : ℕ} {x : Exits} (d : Ready S s rs n) (y : Targets n x) (l : ℕ) (low : l < table_size) (break_if : Option ExpressionHandle) (a b : Tree) (p : Passing)
    {t us : List ℕ} {o : Bool} (begun : Begun S l break_if s rs n t us o) where
  -- what the loop comes to, in the words of the code
  loop_is : (v : PartReq) (r : ℕ → PartReq) (aside : List PartReq) (k : Exit → PartReq) (c : Carried) →
      pass_inside (setting_of S v) r (loop l a b break_if) aside k c
      ≡ turning_on S (k next ∷ aside) (r l) break_if (k next) c >>= λ c' _.
      pointed (after_continuing S (r l) break_if k next) (pass_inside (setting_of S v) r b (k next ∷ aside) (after_continuing S (r l) break_if k)) c' >>= λ d m.
      pointed (of_body m k next) (pass_inside (setting_of S v) r a (m ∷ k next ∷ aside) (of_body m k)) d >>= λ e w. entering aside l (r l) w e
  unfolding pass_inside
  loop_is v r aside k c = refl

  begun_is : {v : PartReq} {r : ℕ → PartReq} {aside : List PartReq} {k : Exit → PartReq} {c : Carried} → Stands S v r aside k c s rs n x p →
      turning_on S (k next ∷ aside) (r l) break_if (k next) c ≡ passed_by o c (in_slot t us n)
  begun_is {aside = aside} {c = c} h = rw (h.hand, h.old l low) at (begun.is aside c (stands_below h d))

  pub begun_full : o ≡ false → {q : Passing} → q.full ≡ true → Walked S (inside (loop l a b break_if)) s rs n x p t us q
  begun_full i g =
      walked_full begun.cells begun.slots g
      (λ v r aside k c h.
      loop_is v r aside k c
      ∙ ap (λ z. z >>= λ c' _.
      pointed (after_continuing S (r l) break_if k next) (pass_inside (setting_of S v) r b (k next ∷ aside) (after_continuing S (r l) break_if k)) c' >>= λ d m.
      pointed (of_body m k next) (pass_inside (setting_of S v) r a (m ∷ k next ∷ aside) (of_body m k)) d >>= λ e w. entering aside l (r l) w e)
      (rw i at (begun_is h)))

  module _ (i : o ≡ true) where
    pub continuing_targets : Targets (n + 1) (case_exits n x)
    continuing_targets =
        let h = d.high in
        record {
          broke = (omega arith, omega arith);
          continued = (y.continued.0, omega (arith, y.continued.1));
          returned = (y.returned.0, omega (arith, y.returned.1));
        }

    begun_keeps : Keeps s rs t us n
    begun_keeps = record { is = λ j m e. begun.kept i j (omega arith) }

    continuing_stands : {v : PartReq} {r : ℕ → PartReq} {aside : List PartReq} {k : Exit → PartReq} {c : Carried} → Stands S v r aside k c s rs n x p →
        Stands S v r (k next ∷ aside) (after_continuing S (r l) break_if k) c t us (n + 1) (case_exits n x) p
    unfolding after_continuing of_continuing of_case out_break upon
    continuing_stands {v} {r} {aside} {k} {c} h =
        let high = d.high in
        let z = leads_on h y begun_keeps in
        let e = begun.kept i (n - 1) (omega arith) ∙ h.hand in
        stands_one h high begun_keeps (table_kept high (λ j m. begun.kept i j (omega arith)) h.new) h.carries (k next) (after_continuing S (r l) break_if k) (case_exits n x)
        e
        (turning-is S (k next ∷ aside) (r l) break_if (k next) c (in_slot t us n) (rw i at (begun_is h)))
        (record { broke = e; continued = z.continued; returned = z.returned })

    module _ {q₁ : Passing} {t₁ us₁ : List ℕ} (first : Walked S (around b) t us (n + 1) (case_exits n x) p t₁ us₁ q₁) where
      -- the loop, once it has begun
      after_begun : {v : PartReq} {r : ℕ → PartReq} {aside : List PartReq} {k : Exit → PartReq} {c : Carried} → Stands S v r aside k c s rs n x p →
          pass_inside (setting_of S v) r (loop l a b break_if) aside k c
          ≡ pointed (after_continuing S (r l) break_if k next) (pass_inside (setting_of S v) r b (k next ∷ aside) (after_continuing S (r l) break_if k)) c >>= λ d m.
          pointed (of_body m k next) (pass_inside (setting_of S v) r a (m ∷ k next ∷ aside) (of_body m k)) d >>= λ e w. entering aside l (r l) w e
      after_begun {v} {r} {aside} {k} {c} h =
          loop_is v r aside k c
          ∙ ap (λ z. z >>= λ c' _.
          pointed (after_continuing S (r l) break_if k next) (pass_inside (setting_of S v) r b (k next ∷ aside) (after_continuing S (r l) break_if k)) c' >>= λ d m.
          pointed (of_body m k next) (pass_inside (setting_of S v) r a (m ∷ k next ∷ aside) (of_body m k)) d >>= λ e w. entering aside l (r l) w e)
          (rw i at (begun_is h))

      pub continuing_full : q₁.full ≡ true → Walked S (inside (loop l a b break_if)) s rs n x p t₁ us₁ q₁
      continuing_full g =
          walked_full (first.cells ∙ begun.cells) (first.slots ∙ begun.slots) g
          (λ v r aside k c h.
          after_begun h
          ∙ ap (λ z. z >>= λ d m. pointed (of_body m k next) (pass_inside (setting_of S v) r a (m ∷ k next ∷ aside) (of_body m k)) d >>= λ e w. entering aside l (r l) w e)
          ((first.is v r (k next ∷ aside) (after_continuing S (r l) break_if k) c (continuing_stands h)).full g))

      module _ (g₁ : q₁.full ≡ false) (room : n + 1 < length us₁) where
        pub body_ready : Ready S t₁ (set us₁ (n + 1) (get_or us₁ n 0)) (n + 1 + 1)
        body_ready =
            let z = first.ready g₁ in
            let h = d.high in
            ready_open z (get_or us₁ n 0) (z.live.loose.pieces n (omega arith)) (z.needs n (omega arith) (λ e. omega arith)) room

        pub body_targets : Targets (n + 1 + 1) (body_exits n x)
        body_targets =
            let h = d.high in
            record { broke = (omega arith, omega arith); continued = (omega arith, omega arith); returned = (y.returned.0, omega (arith, y.returned.1)) }

        body_keeps : Keeps s rs t₁ (set us₁ (n + 1) (get_or us₁ n 0)) n
        body_keeps = record {
          is = λ j m e. slot_other t₁ us₁ (n + 1) j _ (λ z. omega arith) ∙ (first.kept g₁).is j (omega arith) e ∙ begun.kept i j (omega arith);
        }

        after_last : in_slot t₁ (set us₁ (n + 1) (get_or us₁ n 0)) (n - 1) ≡ in_slot s rs (n - 1)
        after_last =
            let h = d.high in
            slot_other t₁ us₁ (n + 1) (n - 1) _ (λ z. omega arith) ∙ (first.kept g₁).is (n - 1) (omega arith) (beside_high (n - 1) (omega arith)) ∙ begun.kept i (n - 1) (omega arith)

        body_stands : {v : PartReq} {r : ℕ → PartReq} {aside : List PartReq} {k : Exit → PartReq} {c : Carried} → Stands S v r aside k c s rs n x p → {z : Passed} (w : Went z t₁ us₁ (n + 1) q₁) →
            Stands S v r (in_slot t₁ us₁ n ∷ k next ∷ aside) (of_body (in_slot t₁ us₁ n) k) w.carried t₁ (set us₁ (n + 1) (get_or us₁ n 0)) (n + 1 + 1) (body_exits n x) q₁
        unfolding of_body out_continue of_continuing of_case out_break upon
        body_stands {v} {r} {aside} {k} {c} h w =
            let high = d.high in
            let two : n + 2 ≡ n + 1 + 1 = omega arith in
            let z = leads_on h y body_keeps in
            let m = slot_other t₁ us₁ (n + 1) n (get_or us₁ n 0) (λ e. omega arith) in
            rw two at
            (stands_two h high body_keeps (record { is = λ j u. slot_other t₁ us₁ (n + 1) (table_size + j) _ (λ e. omega arith) ∙ w.new.is j u; short = w.new.short }) w.carries
            (k next) (in_slot t₁ us₁ n) (of_body (in_slot t₁ us₁ n) k) (body_exits n x)
            (after_last ∙ h.hand) m (slot_same t₁ us₁ (n + 1) _ room)
            (record { broke = after_last ∙ h.hand; continued = m; returned = z.returned }))

        module _ {q₂ : Passing} {t₂ us₂ : List ℕ} (second : Walked S (around a) t₁ (set us₁ (n + 1) (get_or us₁ n 0)) (n + 1 + 1) (body_exits n x) q₁ t₂ us₂ q₂) where
          -- the loop, once its continuing block is walked
          after-continuing : {v : PartReq} {r : ℕ → PartReq} {aside : List PartReq} {k : Exit → PartReq} {c : Carried} (h : Stands S v r aside k c s rs n x p) →
              let w = (first.is v r (k next ∷ aside) (after_continuing S (r l) break_if k) c (continuing_stands h)).on g₁ in
              pass_inside (setting_of S v) r (loop l a b break_if) aside k c
              ≡ pointed (of_body (in_slot t₁ us₁ n) k next) (pass_inside (setting_of S v) r a (in_slot t₁ us₁ n ∷ k next ∷ aside) (of_body (in_slot t₁ us₁ n) k)) w.carried >>= λ e w. entering aside l (r l) w e
          after-continuing {v} {r} {aside} {k} {c} h =
              let w = (first.is v r (k next ∷ aside) (after_continuing S (r l) break_if k) c (continuing_stands h)).on g₁ in
              let z : (n + 1) - 1 ≡ n = omega arith in
              after_begun h
              ∙ ap (λ z. z >>= λ d m. pointed (of_body m k next) (pass_inside (setting_of S v) r a (m ∷ k next ∷ aside) (of_body m k)) d >>= λ e w. entering aside l (r l) w e) (rw z at w.is)

          pub body_full : q₂.full ≡ true → Walked S (inside (loop l a b break_if)) s rs n x p t₂ us₂ q₂
          body_full g =
              walked_full (second.cells ∙ first.cells ∙ begun.cells) (second.slots ∙ length-set us₁ (n + 1) _ ∙ first.slots ∙ begun.slots) g
              (λ v r aside k c h.
              let w = (first.is v r (k next ∷ aside) (after_continuing S (r l) break_if k) c (continuing_stands h)).on g₁ in
              after-continuing h
              ∙ ap (λ z. z >>= λ e w. entering aside l (r l) w e)
              ((second.is v r (in_slot t₁ us₁ n ∷ k next ∷ aside) (of_body (in_slot t₁ us₁ n) k) w.carried (body_stands h w)).full g))

          module _ (g₂ : q₂.full ≡ false) {q₃ : Passing} {t₃ us₃ : List ℕ} (last : Entered S l t₂ us₂ n q₂ t₃ us₃ q₃) where
            walked_keeps : Keeps s rs t₂ us₂ n
            walked_keeps = record { is = λ j m e. (second.kept g₂).is j (omega arith) e ∙ body_keeps.is j m e }

            old_again : {v : PartReq} {r : ℕ → PartReq} {aside : List PartReq} {k : Exit → PartReq} {c : Carried} → Stands S v r aside k c s rs n x p → in_slot t₂ us₂ l ≡ r l
            old_again h = walked_keeps.is l (omega (arith, d.high)) (beside_low l low) ∙ h.old l low

            -- the loop, once its body is walked: what stands before the body is w, and f is carried
            after-body : {v : PartReq} {r : ℕ → PartReq} {aside : List PartReq} {k : Exit → PartReq} {c : Carried} (h : Stands S v r aside k c s rs n x p) →
                (f : Carried) × (pass_inside (setting_of S v) r (loop l a b break_if) aside k c ≡ entering aside l (r l) (in_slot t₂ us₂ (n + 1)) f)
                × ((Carries q₂ f × TableIn t₂ us₂ f) × Reach (aside_of t₂ us₂ (n - 1)) aside)
            after-body {v} {r} {aside} {k} {c} h =
                let w = (first.is v r (k next ∷ aside) (after_continuing S (r l) break_if k) c (continuing_stands h)).on g₁ in
                let u = (second.is v r (in_slot t₁ us₁ n ∷ k next ∷ aside) (of_body (in_slot t₁ us₁ n) k) w.carried (body_stands h w)).on g₂ in
                let z : (n + 1 + 1) - 1 ≡ n + 1 = omega arith in (
                  u.carried,
                  after-continuing h ∙ ap (λ z. z >>= λ e w. entering aside l (r l) w e) (rw z at u.is),
                  ((u.carries, u.new), reach_trans (reach_is (aside_same s rs t₂ us₂ (n - 1) (λ j m e. walked_keeps.is j (omega arith) e))) h.apart),
                )

            -- the loop's end by definition
            entering_is : {v : PartReq} {r : ℕ → PartReq} {aside : List PartReq} {k : Exit → PartReq} {c : Carried} (h : Stands S v r aside k c s rs n x p) (z : Bool) → q₃.full ≡ z →
                let f = (after-body h).0 in
                pass_inside (setting_of S v) r (loop l a b break_if) aside k c
                ≡ passed_by (not z) f (in_slot t₂ us₂ (n + 1)) >>= λ d m. on (enter l (r l) m d) m
            unfolding entering
            entering_is {v} {r} {aside} {k} {c} h z i =
                let f = after-body h in
                f.1
                ∙ ap (λ z. z >>= λ d m. on (enter l (r l) m d) m)
                (ap (λ z. within (add (in_slot t₂ us₂ (n + 1)) z ∷ aside) (in_slot t₂ us₂ (n + 1)) f.0) (sym (f.2.0.1.is l low)) ∙ last.is aside f.0 f.2.1 f.2.0.1
                ∙ ap (λ z. passed_by (not z) f.0 (in_slot t₂ us₂ (n + 1))) i)

            pub loop_full : q₃.full ≡ true → Walked S (inside (loop l a b break_if)) s rs n x p t₃ us₃ q₃
            loop_full g =
                walked_full (last.cells ∙ second.cells ∙ first.cells ∙ begun.cells) (last.slots ∙ second.slots ∙ length-set us₁ (n + 1) _ ∙ first.slots ∙ begun.slots) g
                (λ v r aside k c h. entering_is h true g)

            module _ (g : q₃.full ≡ false) where
              -- the new table has the loop's needs joined
              joined_table : (f : Carried) (again : PartReq) → TableIn t₂ us₂ f → TableIn t₃ us₃ (enter l again (in_slot t₂ us₂ (n + 1)) f)
              unfolding enter
              joined_table f again h = record {
                is = λ j m.
                    elim (ℕ_discrete j l) [
                      | yes e ↦
                          rw e (last.joined g ∙ ap (add (in_slot t₂ us₂ (n + 1))) (h.is l low) ∙ sym (join-at l (in_slot t₂ us₂ (n + 1)) f.table l ∙ rw (eq-eqb l l refl)))
                      | no e ↦
                          last.others g j m e ∙ h.is j m ∙ sym (join-at l (in_slot t₂ us₂ (n + 1)) f.table j ∙ rw (ne_eqb l j (λ z. e (sym z))))
                    ];
                short = join_long l (in_slot t₂ us₂ (n + 1)) f.table table_size low h.short;
              }

              joined_carries : (f : Carried) (again : PartReq) → in_slot t₂ us₂ l ≡ again → Carries q₂ f → Carries q₃ (enter l again (in_slot t₂ us₂ (n + 1)) f)
              unfolding enter
              joined_carries f again e h = record {
                fault = rw (last.fault g) h.fault;
                held = last.held g ∙ rw (e, h.held);
                deep = last.deep g ∙ h.deep;
                wide = last.wide g ∙ h.wide;
              }

              pub walked_loop : Walked S (inside (loop l a b break_if)) s rs n x p t₃ us₃ q₃
              walked_loop =
                  walked_on (last.cells ∙ second.cells ∙ first.cells ∙ begun.cells) (last.slots ∙ second.slots ∙ length-set us₁ (n + 1) _ ∙ first.slots ∙ begun.slots) g (last.ready g)
                  (keeps_trans (omega arith) walked_keeps (last.kept g))
                  (λ v r aside k c h.
                  let f = after-body h in
                  record {
                    carried = enter l (r l) (in_slot t₂ us₂ (n + 1)) f.0;
                    is = entering_is h false g ∙ ap (on (enter l (r l) (in_slot t₂ us₂ (n + 1)) f.0)) (sym (last.hand g));
                    carries = joined_carries f.0 (r l) (old_again h) f.2.0.0;
                    new = joined_table f.0 (r l) f.2.0.1;
                  })
