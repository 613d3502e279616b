-- Counting a part's entries, a list's and a context's pieces: one law for each way through the code. The loop's invariant says that what is counted
-- so far, with the entries that are left, gives the whole.
use Prim.Native.Nat.{ℕ, ◌+◌, ◌-◌, ◌*◌, ◌≤◌, ◌<◌}
use native.Mathlib.Omega.{arith}
use mathlib.Core.Path.{◌≡◌, refl, ap, sym, ◌∙◌}
use mathlib.Core.Bool.{Bool, false}
use mathlib.Core.List.{List, []}
use mathlib.Core.Option.{Option, some}
use lib.ListN.{length, drop}
use borrow.Author.Tests.{eq-eqb}
use Rattle.field.specs.Limits.{max_depth}
use Rattle.part.specs.PartReq.{PartReq, more, entries, spine}
use Rattle.context.specs.RequiredContext.{RequiredContext, pieces, return_entry}
use Rattle.request.specs.Fields.{fields, Read, malformed, got, ◌>>=◌}
use Rattle.request.specs.Part.{read_part, read_entries, read_return, read_variables}
use Rattle.request.specs.Context.{is_context}
use Rattle.request.specs.Answers.{Field}
use Rattle.request.proofs.Bytes.{no_field}
use Rattle.request.proofs.Entries.{Index, index_no_part, entries_none}
use Rattle.request.proofs.Variables.{return_end}
use Rattle.std.specs.Prelude.{Option as Maybe, Some, None}
use Rattle.std.specs.Borrow.{Bor}
use Rattle.request.specs.declared.codes.Code.TheVariants.{All, Exist, Entries}
use Rattle.request.specs.Codes.{CodeWasRead}
use Rattle.context_bytes.specs.Counted.{counted, counted_return, CountPlaced, Counts, EntriesCounted, PiecesCounted}
use Rattle.context_bytes.proofs.Accepted.{Accepted, accepted}
use Rattle.request.proofs.Steps.{index_then}
use Rattle.context_bytes.proofs.Lists.{return_is, variables_are}

-- a requirement was read, and has n entries
record Tallied (r : Read PartReq) (n : ℕ) (fs : List ℕ) : Type 0 where
  value : PartReq
  is : r ≡ got value fs
  many : entries value ≡ n

tallied : (r : Read PartReq) {n : ℕ} {fs : List ℕ} → counted r ≡ got n fs → Tallied r n fs
unfolding counted
tallied malformed e = let z : ◌≡◌ {A = ℕ} 0 1 = cc in absurd (omega arith)
tallied (got p gs) e = record { value = p; is = cc; many = cc }

untold : (r : Read PartReq) → counted r ≡ malformed → r ≡ malformed
unfolding counted
untold malformed e = refl
untold (got p gs) e = let z : ◌≡◌ {A = ℕ} 0 1 = cc in absurd (omega arith)

-- the same, where the bytes begin earlier
earlier : (b c : List ℕ) (j k : ℕ) (a : Maybe (ℕ × Bor (List ℕ))) → k + length c ≤ j + length b → CountPlaced c j a → CountPlaced b k a
earlier b c j k None l h = tt
earlier b c j k (Some p) l h = omega (arith, l, h)

-- a part, by its code
module _ {b : List ℕ} {d : ℕ} where
  pub count_malformed : CodeWasRead b d None → Counts b 4 (counted (read_part d (fields b))) None
  unfolding counted
  count_malformed was = record { is = sym (ap counted was.is); placed = tt }

  module _ {c : Bor (List ℕ)} where
    pub count_all : CodeWasRead b d (Some (All, c)) → Counts b 4 (counted (read_part d (fields b))) (Some (0, c))
    unfolding counted entries
    count_all was = record { is = sym (ap counted was.is); placed = omega (arith, was.placed) }

    pub count_exist : CodeWasRead b d (Some (Exist, c)) → Counts b 4 (counted (read_part d (fields b))) (Some (0, c))
    unfolding counted entries
    count_exist was = record { is = sym (ap counted was.is); placed = omega (arith, was.placed) }

    pub count_listed : {n : ℕ} {a : Maybe (ℕ × Bor (List ℕ))} → CodeWasRead b d (Some (Entries n, c)) → EntriesCounted c.now (d - 1) n a
        → Counts b 4 (counted (read_part d (fields b))) a
    count_listed {a = a} was entries' =
        let k = entries'.counts 0 in
        record { is = k.is ∙ sym (ap counted was.is); placed = earlier b c.now 2 4 a (omega (arith, was.placed)) k.placed }

-- entries
unfoldable pub plus : ℕ → Read ℕ → Read ℕ
plus k malformed = malformed
plus k (got n fs) = got (k + n) fs

plus_none : (r : Read ℕ) → plus 0 r ≡ r
unfolding plus
plus_none malformed = refl
plus_none (got n fs) = let z : 0 + n ≡ n = omega arith in ap (λ x. got x fs) z

plus-plus : (k j : ℕ) (r : Read ℕ) → plus k (plus j r) ≡ plus (k + j) r
unfolding plus
plus-plus k j malformed = refl
plus-plus k j (got n fs) = let z : k + (j + n) ≡ (k + j) + n = omega arith in ap (λ x. got x fs) z

counted_more : (j : ℕ) (p : PartReq) (r : Read PartReq) → counted (r >>= λ q hs. got (more j p q) hs) ≡ plus (1 + entries p) (counted r)
unfolding counted plus entries
counted_more j p malformed = refl
counted_more j p (got q hs) = let z : 1 + (entries p + entries q) ≡ (1 + entries p) + entries q = omega arith in ap (λ x. got x hs) z

pub record Counting (b : List ℕ) (d n : ℕ) (c : List ℕ) (low left sum : ℕ) : Type 0 where
  pub further : 4 * sum + length c ≤ length b
  pub rest : (base : ℕ) → plus sum (counted (read_entries (read_part d) base low left (fields c))) ≡ counted (read_entries (read_part d) base 0 n (fields b))

pub counting_first : (b : List ℕ) (d n : ℕ) → Counting b d n b 0 n 0
counting_first b d n = record { further = omega arith; rest = λ base. plus_none _ }

pub counting_done : {b : List ℕ} {d n low left sum : ℕ} {c : Bor (List ℕ)} → Counting b d n c.now low left sum → left ≡ 0 → EntriesCounted b d n (Some (sum, c))
unfolding counted plus entries
counting_done {d = d} {low = low} {left} {sum} {c} so e =
    let z : sum ≡ sum + 0 = omega arith in
    record {
      counts =
          λ base.
          record {
            is =
                ap (λ x. got x (fields c.now)) z
                ∙ (sym (ap (λ x. plus sum (counted x)) (entries_none (read_part d) base low left (fields c.now) e)) ∙ so.rest base);
            placed = omega (arith, so.further);
          };
    }

module _ {b c : List ℕ} {d n low left sum : ℕ} (so : Counting b d n c low left sum) where
  pub counting_stop : ((base : ℕ) → read_entries (read_part d) base low left (fields c) ≡ malformed) → EntriesCounted b d n None
  unfolding counted plus
  counting_stop h = record { counts = λ base. record { is = sym (ap (λ x. plus sum (counted x)) (h base)) ∙ so.rest base; placed = tt } }

  module _ {e : List ℕ} {i k : ℕ} (x : Index c low left i k e) where
    pub counting_no_part : Counts e 4 (counted (read_part d (fields e))) None → EntriesCounted b d n None
    counting_no_part was = counting_stop (λ base. index_no_part x base d (untold (read_part d (fields e)) (sym was.is)))

    pub counting_again : {m : ℕ} {end : Bor (List ℕ)} → Counts e 4 (counted (read_part d (fields e))) (Some (m, end)) → Counting b d n end.now (i + 1) k (sum + 1 + m)
    counting_again {m} {end} was =
        let p = tallied (read_part d (fields e)) (sym was.is) in
        let many : entries p.value ≡ m = p.many in
        let z : sum + 1 + m ≡ sum + (1 + entries p.value) = rw many (omega arith) in
        record {
          further = omega (arith, was.placed, x.field.left, so.further);
          rest =
              λ base.
              let y = read_entries (read_part d) base (i + 1) k (fields end.now) in
              ap (λ s. plus s (counted y)) z
              ∙ sym (plus-plus sum (1 + entries p.value) (counted y))
              ∙ ap (plus sum) (sym (counted_more (base + i) p.value y))
              ∙ sym (ap (λ s. plus sum (counted s)) (index_then x base d p.is))
              ∙ so.rest base;
        }

-- the returned value
pub return_ends : (b : List ℕ) → length b < 2 → Counts b 0 (counted_return (read_return (fields b))) None
unfolding counted_return
return_ends b h = record { is = sym (ap counted_return (return_end b h)); placed = tt }

some-part : (r : Read PartReq) {n : ℕ} {fs : List ℕ} → counted r ≡ got n fs → got (n + 1) fs ≡ counted_return (r >>= λ p gs. got (some p) gs)
unfolding counted counted_return return_entry entries
some-part malformed e = let z : ◌≡◌ {A = ℕ} 0 1 = cc in absurd (omega arith)
some-part (got p gs) {n} {fs} e =
    let many : entries p ≡ n = cc in
    let same : gs ≡ fs = cc in
    let z : n + 1 ≡ 1 + (entries p + 0) = rw many (omega arith) in
    ap (λ x. got x fs) z ∙ ap (got (1 + (entries p + 0))) (sym same)

no_part : (r : Read PartReq) → counted r ≡ malformed → malformed ≡ counted_return (r >>= λ p gs. got (some p) gs)
unfolding counted counted_return
no_part malformed e = refl
no_part (got p gs) e = let z : ◌≡◌ {A = ℕ} 0 1 = cc in absurd (omega arith)

pub return-nothing : {b : List ℕ} {i : ℕ} {c : Bor (List ℕ)} → Field b i c.now → i ≡ 3 → Counts b 0 (counted_return (read_return (fields b))) (Some (0, c))
unfolding read_return counted_return return_entry entries
return-nothing {i = i} f e = record { is = rw (f.is, eq-eqb i 3 e); placed = omega (arith, f.left) }

module _ {b c : List ℕ} {i : ℕ} (f : Field b i c) (h : i ≡ 3 → ⊥) where
  pub return_malformed : Counts b 4 (counted (read_part max_depth (fields b))) None → Counts b 0 (counted_return (read_return (fields b))) None
  return_malformed was =
      record { is = no_part (read_part max_depth (fields b)) (sym was.is) ∙ sym (ap counted_return (return_is f h)); placed = tt }

  pub return_counted : {n : ℕ} {x : Bor (List ℕ)} → Counts b 4 (counted (read_part max_depth (fields b))) (Some (n, x))
      → Counts b 0 (counted_return (read_return (fields b))) (Some (n + 1, x))
  return_counted was =
      record {
        is = some-part (read_part max_depth (fields b)) (sym was.is) ∙ sym (ap counted_return (return_is f h));
        placed = omega (arith, was.placed);
      }

-- a list of variables
pub list_ends : (b : List ℕ) → length b < 2 → Counts b 2 (counted (read_variables (fields b))) None
unfolding read_variables counted
list_ends b h = record { is = rw (no_field b h); placed = tt }

pub list_counted : {b c : List ℕ} {n : ℕ} {a : Maybe (ℕ × Bor (List ℕ))} → Field b n c → EntriesCounted c max_depth n a → Counts b 2 (counted (read_variables (fields b))) a
list_counted {b} {c} {n} {a} f was =
    let k = was.counts spine in
    record { is = k.is ∙ sym (ap counted (variables_are f)); placed = earlier b c 2 2 a (omega (arith, f.left)) k.placed }

-- the whole
module _ (b : List ℕ) where
  pub no_frame : {r : Bool} → r ≡ is_context b → r ≡ false → PiecesCounted b 0
  no_frame is h = record { is = λ c k. let f = (accepted k).framed in let z : ◌≡◌ {A = ℕ} 0 1 = cc in absurd (omega arith) }

  return_tallied : (v : Read (Option PartReq)) {o : Option PartReq} {fs gs : List ℕ} {n : ℕ} → v ≡ got o fs → counted_return v ≡ got n gs → (n ≡ entries (return_entry o)) × (fs ≡ gs)
  unfolding counted_return
  return_tallied malformed e f = let z : ◌≡◌ {A = ℕ} 0 1 = cc in absurd (omega arith)
  return_tallied (got o hs) e f = (cc, cc)

  list_tallied : (v : Read PartReq) {p : PartReq} {fs gs : List ℕ} {n : ℕ} → v ≡ got p fs → counted v ≡ got n gs → (n ≡ entries p) × (fs ≡ gs)
  unfolding counted
  list_tallied malformed e f = let z : ◌≡◌ {A = ℕ} 0 1 = cc in absurd (omega arith)
  list_tallied (got p hs) e f = (cc, cc)

  pub no_return : Counts (drop 6 b) 0 (counted_return (read_return (fields (drop 6 b)))) None → PiecesCounted b 0
  unfolding counted_return
  no_return first =
      record {
        is =
            λ c k.
            let f = ap counted_return (accepted k).return_is in
            let g = first.is in
            let z : ◌≡◌ {A = ℕ} 0 1 = cc in
            absurd (omega arith);
      }

  module _ {r : ℕ} {x : Bor (List ℕ)} (first : Counts (drop 6 b) 0 (counted_return (read_return (fields (drop 6 b)))) (Some (r, x))) where
    lists_at : {c : RequiredContext} (k : Accepted b c) → (r ≡ entries c.retval) × (k.lists ≡ fields x.now)
    lists_at k = let t = return_tallied (read_return (fields (drop 6 b))) k.return_is (sym first.is) in (rw k.returned t.0, t.1)

    globals_are : {c : RequiredContext} (k : Accepted b c) → read_variables (fields x.now) ≡ got c.globals k.args
    globals_are k = sym (ap read_variables (lists_at k).1) ∙ k.globals_is

    pub no_globals : Counts x.now 2 (counted (read_variables (fields x.now))) None → PiecesCounted b 0
    unfolding counted
    no_globals second =
        record {
          is =
              λ c k.
              let h = ap counted (globals_are (accepted k)) in
              let j = second.is in
              let z : ◌≡◌ {A = ℕ} 0 1 = cc in
              absurd (omega arith);
        }

    module _ {m : ℕ} {y : Bor (List ℕ)} (second : Counts x.now 2 (counted (read_variables (fields x.now))) (Some (m, y))) where
      args_at : {c : RequiredContext} (k : Accepted b c) → (m ≡ entries c.globals) × (k.args ≡ fields y.now)
      args_at k = list_tallied (read_variables (fields x.now)) (globals_are k) (sym second.is)

      args_are : {c : RequiredContext} (k : Accepted b c) → read_variables (fields y.now) ≡ got c.args k.locals
      args_are k = sym (ap read_variables (args_at k).1) ∙ k.args_is

      pub no_args : Counts y.now 2 (counted (read_variables (fields y.now))) None → PiecesCounted b 0
      unfolding counted
      no_args third =
          record {
            is =
                λ c k.
                let o = ap counted (args_are (accepted k)) in
                let q = third.is in
                let z : ◌≡◌ {A = ℕ} 0 1 = cc in
                absurd (omega arith);
          }

      module _ {n : ℕ} {z : Bor (List ℕ)} (third : Counts y.now 2 (counted (read_variables (fields y.now))) (Some (n, z))) where
        locals-at : {c : RequiredContext} (k : Accepted b c) → (n ≡ entries c.args) × (k.locals ≡ fields z.now)
        locals-at k = list_tallied (read_variables (fields y.now)) (args_are k) (sym third.is)

        locals_are : {c : RequiredContext} (k : Accepted b c) → read_variables (fields z.now) ≡ got c.locals []
        locals_are k = sym (ap read_variables (locals-at k).1) ∙ k.locals_is

        pub no_locals : Counts z.now 2 (counted (read_variables (fields z.now))) None → PiecesCounted b 0
        unfolding counted
        no_locals fourth =
            record {
              is =
                  λ c k.
                  let q = ap counted (locals_are (accepted k)) in
                  let s = fourth.is in
                  let w : ◌≡◌ {A = ℕ} 0 1 = cc in
                  absurd (omega arith);
            }

        module _ {o : ℕ} {w : Bor (List ℕ)} (fourth : Counts z.now 2 (counted (read_variables (fields z.now))) (Some (o, w))) where
          pub pieces_are : PiecesCounted b (m + o + n + r)
          unfolding pieces
          pieces_are =
              record {
                is =
                    λ c k.
                    let s = accepted k in
                    let t = list_tallied (read_variables (fields z.now)) (locals_are s) (sym fourth.is) in
                    rw ((lists_at s).0, (args_at s).0, (locals-at s).0, t.0);
              }
