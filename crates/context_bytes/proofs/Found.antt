-- Finding an entry: one law for each way through the code. The loop's invariant says that the entries that are left have the same one.
use Prim.Native.Nat.{ℕ, ◌+◌, ◌-◌, ◌≤◌, ◌<◌}
use native.Mathlib.Omega.{arith}
use mathlib.Core.Path.{◌≡◌, refl, ap, sym, ◌∙◌}
use mathlib.Core.Bool.{Bool, true, false}
use mathlib.Core.List.{List}
use lib.ListN.{length, drop}
use borrow.Author.Tests.{lt-ltb, le-ltb}
use Rattle.field.specs.Limits.{max_depth}
use Rattle.part.specs.PartReq.{PartReq, all, exist, none, more, is_all, is_exist, Subpart, gone, there, get_subpart, spine}
use Rattle.context.specs.RequiredContext.{RequiredContext, variable}
use Rattle.request.specs.Fields.{fields, Read, malformed, got}
use Rattle.request.specs.Part.{read_part, read_entries, read_return, read_variables}
use Rattle.request.specs.Context.{is_context}
use Rattle.request.specs.Answers.{Tail, Field}
use Rattle.request.proofs.Bytes.{no_field, tail_drop, tail_all, tail_then}
use Rattle.request.proofs.Entries.{Index, index_next, entries_none}
use Rattle.std.specs.Prelude.{Option as Maybe, Some, None}
use Rattle.std.specs.Option.{unwrap_or}
use Rattle.std.specs.Borrow.{Bor}
use Rattle.request.specs.declared.codes.Code.{Code}
use Rattle.request.specs.declared.codes.Code.TheVariants.{All, Exist, Entries}
use Rattle.request.specs.Codes.{CodeWasRead, by_answer}
use Rattle.context_bytes.specs.Checked.{checked, Skips, Checks}
use Rattle.context_bytes.specs.Found.{value_of, part_in, Readable, SubpartIn, EntryFound, VariableFound, list_in, ListReadable, ListIn, ArgsIn, ArgsAfter}
use Rattle.context_bytes.proofs.Accepted.{Accepted, accepted, bound}
use Rattle.context_bytes.proofs.Asking.{read_list}
use Rattle.context_bytes.proofs.Checked.{skip_refused, skip_passed}
use Rattle.context_bytes.proofs.Lists.{listed, unlisted, variables_are}

-- what was read
value_is : {r : Read PartReq} {p : PartReq} {fs : List ℕ} → r ≡ got p fs → value_of r ≡ p
unfolding value_of
value_is e = ap value_of e

-- a part that is read is followed by something
left_behind : (r : Read PartReq) → (r ≡ malformed → ⊥) → (fs : List ℕ) × (r ≡ got (value_of r) fs)
unfolding value_of
left_behind malformed h = absurd (h refl)
left_behind (got p fs) h = (fs, refl)

pub readable : {b : List ℕ} {d : ℕ} {p : PartReq} {fs : List ℕ} → read_part d (fields b) ≡ got p fs → Readable b d × (part_in b d ≡ p)
readable {b} {d} {p} {fs} e = (record { is = λ m. let z : ◌≡◌ {A = ℕ} 0 1 = cc in absurd (omega arith) }, value_is e)

pub list_there : {b : List ℕ} {p : PartReq} → ListIn b p → ListReadable b × (list_in b ≡ p)
list_there {b} l =
    let e = l.is in
    (record { is = λ m. let z : ◌≡◌ {A = ℕ} 0 1 = cc in absurd (omega arith) }, value_is l.is)

-- `get_subpart` at the first entry
module _ (i j : ℕ) (p r : PartReq) where
  sub_before : i < j → get_subpart (more j p r) i ≡ gone
  unfolding get_subpart
  sub_before h = let l : i ≤ j = omega arith in simp (le-ltb j i l, lt-ltb i j h)

  sub_after : j < i → get_subpart (more j p r) i ≡ get_subpart r i
  unfolding get_subpart
  sub_after h = simp (lt-ltb j i h)

  sub_at : i ≡ j → get_subpart (more j p r) i ≡ there p
  unfolding get_subpart
  sub_at e =
      let h : i ≤ j = omega arith in
      let l : j ≤ i = omega arith in
      simp (le-ltb j i h, le-ltb i j l)

-- what is left to look at
record Later (c : List ℕ) (d i base low left : ℕ) (p : PartReq) (fs : List ℕ) : Type 0 where
  list : PartReq
  is : read_entries (read_part d) base low left (fields c) ≡ got list fs
  same : get_subpart p (base + i) ≡ get_subpart list (base + i)

pub record Finding (b : List ℕ) (d n i : ℕ) (c : List ℕ) (low left : ℕ) : Type 0 where
  later : (base : ℕ) (p : PartReq) (fs : List ℕ) → read_entries (read_part d) base 0 n (fields b) ≡ got p fs → Later c d i base low left p fs
  tail : Tail b c

pub finding_first : (b : List ℕ) (d n i : ℕ) → Finding b d n i b 0 n
finding_first b d n i = record { later = λ base p fs e. record { list = p; is = e; same = refl }; tail = tail_all b }

-- the first of what is left: its part, and those after it
record First (e : List ℕ) (d base j k : ℕ) (list : PartReq) (fs : List ℕ) : Type 0 where
  value : PartReq
  after : List ℕ
  others : PartReq
  part_is : read_part d (fields e) ≡ got value after
  others_are : read_entries (read_part d) base (j + 1) k after ≡ got others fs
  list_is : list ≡ more (base + j) value others

first : {c e : List ℕ} {d base low left j k : ℕ} {list : PartReq} {fs : List ℕ} → Index c low left j k e
    → read_entries (read_part d) base low left (fields c) ≡ got list fs → First e d base j k list fs
first {c} {e} {d} {base} {low} {left} {j} {k} {list} {fs} x was =
    let p = bound (read_part d (fields e)) _ (sym (index_next x base d) ∙ was) in
    let r = bound (read_entries (read_part d) base (j + 1) k p.left) _ p.then in
    let same : r.left ≡ fs = cc in
    let list_is : list ≡ more (base + j) p.value r.value = cc in
    record {
      value = p.value;
      after = p.left;
      others = r.value;
      part_is = p.is;
      others_are = r.is ∙ ap (got r.value) same;
      list_is = list_is;
    }

module _ {b c : List ℕ} {d n i low left : ℕ} (so : Finding b d n i c low left) where
  nowhere : ((base : ℕ) (p : PartReq) (fs : List ℕ) → read_entries (read_part d) base 0 n (fields b) ≡ got p fs → get_subpart p (base + i) ≡ gone) → EntryFound b d n i None
  nowhere h = record { is = h }

  pub finding_stop : ((base : ℕ) → read_entries (read_part d) base low left (fields c) ≡ malformed) → EntryFound b d n i None
  finding_stop h =
      nowhere
      (λ base p fs e.
      let l = (so.later base p fs e).is in
      let m = h base in
      let z : ◌≡◌ {A = ℕ} 0 1 = cc in
      absurd (omega arith))

  pub finding_done : left ≡ 0 → EntryFound b d n i None
  unfolding get_subpart
  finding_done z =
      nowhere
      (λ base p fs e.
      let l = so.later base p fs e in
      let m = entries_none (read_part d) base low left (fields c) z in
      let is : l.list ≡ none = cc in
      l.same ∙ rw is)

  module _ {e : List ℕ} {j k : ℕ} (x : Index c low left j k e) where
    pub finding_before : i < j → EntryFound b d n i None
    finding_before h =
        nowhere
        (λ base p fs h'.
        let l = so.later base p fs h' in
        let f = first x l.is in
        l.same ∙ rw f.list_is (sub_before (base + i) (base + j) f.value f.others (omega arith)))

    pub finding_no_part : Skips e (read_part d (fields e)) None → EntryFound b d n i None
    finding_no_part was =
        nowhere
        (λ base p fs g.
        let f = (first x (so.later base p fs g).is).part_is in
        let m = skip_refused was in
        let z : ◌≡◌ {A = ℕ} 0 1 = cc in
        absurd (omega arith))

    pub finding_again : {end : Bor (List ℕ)} → Skips e (read_part d (fields e)) (Some end) → j ≤ i → (i ≡ j → ⊥) → Finding b d n i end.now (j + 1) k
    finding_again {end} was h ne =
        record {
          later =
              λ base p fs g.
              let l = so.later base p fs g in
              let f = first x l.is in
              let q = (skip_passed was).is in
              let m = f.part_is in
              let there' : f.after ≡ fields end.now = cc in
              let above : base + j < base + i = omega (arith, ne) in
              record {
                list = f.others;
                is = sym (ap (read_entries (read_part d) base (j + 1) k) there') ∙ f.others_are;
                same = l.same ∙ ap (λ x. get_subpart x (base + i)) f.list_is ∙ sub_after (base + i) (base + j) f.value f.others above;
              };
          tail = tail_then so.tail (tail_then x.field.tail was.placed);
        }

pub finding_here : {b c : List ℕ} {d n i low left j k : ℕ} {e : Bor (List ℕ)} → Finding b d n i c low left → Index c low left j k e.now → i ≡ j → EntryFound b d n i (Some e)
finding_here {d = d} {i = i} {j = j} so x h =
    record {
      is =
          λ base p fs g.
          let l = so.later base p fs g in
          let f = first x l.is in
          let r = readable f.part_is in
          (r.0, l.same ∙ rw (f.list_is, r.1) (sub_at (base + i) (base + j) f.value f.others (omega arith)), tail_then so.tail x.field.tail);
    }

-- the same, where the bytes begin earlier
earlier : {b c : List ℕ} (sub : Subpart) (d : ℕ) (a : Maybe (Bor (List ℕ))) → Tail b c → SubpartIn c sub d a → SubpartIn b sub d a
earlier sub d None l h = h
earlier sub d (Some e) l h = (h.0, h.1, tail_then l h.2)

-- a part, by its code
module _ {b : List ℕ} {d : ℕ} (R : Readable b d) where
  behind : (fs : List ℕ) × (read_part d (fields b) ≡ got (part_in b d) fs)
  behind = left_behind (read_part d (fields b)) R.is

  coded : {a : Maybe (Code × Bor (List ℕ))} → CodeWasRead b d a → by_answer d a ≡ got (part_in b d) behind.0
  coded was = sym was.is ∙ behind.1

  module _ {c : Bor (List ℕ)} where
    it_is_all : CodeWasRead b d (Some (All, c)) → all ≡ part_in b d
    it_is_all was = let h = coded was in cc

    it_is_exist : CodeWasRead b d (Some (Exist, c)) → exist ≡ part_in b d
    it_is_exist was = let h = coded was in cc

    pub found_all : CodeWasRead b d (Some (All, c)) → (i : ℕ) → get_subpart (part_in b d) i ≡ there (part_in b d)
    unfolding get_subpart
    found_all was i = rw (← it_is_all was)

    pub found_exist : CodeWasRead b d (Some (Exist, c)) → (i : ℕ) → get_subpart (part_in b d) i ≡ gone
    unfolding get_subpart
    found_exist was i = rw (← it_is_exist was)

    module _ {n : ℕ} (was : CodeWasRead b d (Some (Entries n, c))) where
      pub found_entry : {i : ℕ} {a : Maybe (Bor (List ℕ))} → EntryFound c.now (d - 1) n i a → SubpartIn b (get_subpart (part_in b d) i) (d - 1) a
      found_entry {i} {a} found =
          let z : 0 + i ≡ i = omega arith in
          earlier (get_subpart (part_in b d) i) (d - 1) a was.placed.2 (rw z at (found.is 0 (part_in b d) behind.0 (coded was)))

      listed_not_all : is_all (part_in b d) ≡ false
      listed_not_all = (read_list (read_part (d - 1)) 0 0 n (fields c.now) (coded was)).0

      listed_not_exist : is_exist (part_in b d) ≡ false
      listed_not_exist = (read_list (read_part (d - 1)) 0 0 n (fields c.now) (coded was)).1

  -- whether the code is that of all, or of existence
  module _ {c : Bor (List ℕ)} where
    pub yes_all : CodeWasRead b d (Some (All, c)) → true ≡ is_all (part_in b d)
    yes_all was = ap is_all (it_is_all was)

    pub no_all : (x : Code) → (x ≡ All → ⊥) → CodeWasRead b d (Some (x, c)) → false ≡ is_all (part_in b d)
    no_all All h was = absurd (h refl)
    no_all Exist h was = ap is_all (it_is_exist was)
    no_all (Entries k) h was = sym (listed_not_all was)

    pub yes_exist : CodeWasRead b d (Some (Exist, c)) → true ≡ is_exist (part_in b d)
    yes_exist was = ap is_exist (it_is_exist was)

    pub no_exist : (x : Code) → (x ≡ Exist → ⊥) → CodeWasRead b d (Some (x, c)) → false ≡ is_exist (part_in b d)
    no_exist All h was = ap is_exist (it_is_all was)
    no_exist Exist h was = absurd (h refl)
    no_exist (Entries k) h was = sym (listed_not_exist was)

-- a list of variables
pub variable_short : (b : List ℕ) (i : ℕ) → length b < 2 → VariableFound b i None
unfolding read_variables
variable_short b i h =
    record {
      is =
          λ p fs e.
          let f : malformed ≡ got p fs = rw (no_field b h) at e in
          let z : ◌≡◌ {A = ℕ} 0 1 = cc in
          absurd (omega arith);
    }

pub variable_found : {b c : List ℕ} {n i : ℕ} {a : Maybe (Bor (List ℕ))} → Field b n c → EntryFound c max_depth n i a → VariableFound b i a
variable_found {i = i} {a} f was =
    record { is = λ p fs e. earlier (get_subpart p (variable i)) max_depth a f.tail (was.is spine p fs (sym (variables_are f) ∙ e)) }

pub found_variable : {b : List ℕ} {i : ℕ} {a : Maybe (Bor (List ℕ))} → ListReadable b → VariableFound b i a → SubpartIn b (get_subpart (list_in b) (variable i)) max_depth a
found_variable {b} {i} {a} R found =
    let l = left_behind (read_variables (fields b)) R.is in
    found.is (list_in b) l.0 l.1

-- where the arguments stand
module _ {b : List ℕ} where
  nothing_there : (a : List ℕ) → Tail b a → ((c : RequiredContext) → Accepted b c → ⊥) → ArgsIn b a
  nothing_there a l h = record { is = λ c k. absurd (h c (accepted k)); tail = l }

  pub args_unframed : (a : List ℕ) {r : Bool} → Tail b a → r ≡ is_context b → r ≡ false → ArgsIn b a
  args_unframed a l is h = nothing_there a l (λ c k. let f = k.framed in let z : ◌≡◌ {A = ℕ} 0 1 = cc in omega arith)

  pub args_unread : (a : Bor (List ℕ)) (r : Maybe (Bor (List ℕ))) → Tail b a.now → ArgsAfter b r → ArgsIn b (unwrap_or r a).now
  args_unread a None l h = record { is = λ c k. absurd (h c k); tail = l }
  args_unread a (Some x) l h = h

module _ (b : List ℕ) where
  pub args_no_return : Skips (drop 6 b) (read_return (fields (drop 6 b))) None → ArgsAfter b None
  args_no_return was =
      let m = skip_refused was in
      λ c h. let f = (accepted h).return_is in let z : ◌≡◌ {A = ℕ} 0 1 = cc in omega arith

  module _ {x : Bor (List ℕ)} (was : Skips (drop 6 b) (read_return (fields (drop 6 b))) (Some x)) where
    globals_in : {c : RequiredContext} (k : Accepted b c) → read_variables (fields x.now) ≡ got c.globals k.args
    globals_in k =
        let m = (skip_passed was).is in
        let f = k.return_is in
        let same : k.lists ≡ fields x.now = cc in
        sym (ap read_variables same) ∙ k.globals_is

    pub args_no_globals : Checks x.now (checked (variable 0) (read_variables (fields x.now))) None → ArgsAfter b None
    args_no_globals list =
        let m = unlisted 0 (read_variables (fields x.now)) (sym list.is) in
        λ c h. let f = globals_in (accepted h) in let z : ◌≡◌ {A = ℕ} 0 1 = cc in omega arith

    pub args_here : {known : Bool} {a : Bor (List ℕ)} → Checks x.now (checked (variable 0) (read_variables (fields x.now))) (Some (known, a)) → 6 ≤ length b → ArgsAfter b (Some a)
    args_here {a = a} list long =
        let g = listed 0 (read_variables (fields x.now)) (sym list.is) in
        record {
          is =
              λ c k.
              let so = accepted k in
              let f = globals_in so in
              let m = g.is in
              let same : so.args ≡ fields a.now = cc in
              record { rest = so.locals; is = sym (ap read_variables same) ∙ so.args_is };
          tail = tail_then (tail_drop b 6 long) (tail_then was.placed list.placed);
        }
