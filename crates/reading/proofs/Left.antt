-- The records of a file one by one: what is left of them gives the answer for the whole.
use mathlib.Core.Path.{◌≡◌, refl, sym, ap, ◌∙◌}
use mathlib.Core.List.{List}
use Prim.Native.Nat.{ℕ, suc, ◌+◌, ◌-◌, ◌<◌, ◌≤◌}
use native.Mathlib.Omega.{arith}
use lib.ListN.{length, length-replicate}
use borrow.Author.Tests.{le-ltb, le-leb, lt-leb}
use Rattle.field.specs.Limits.{max_bytes}
use Rattle.module.specs.declared.tables.Counts.{Counts}
use Rattle.module.specs.Scan.{values}
use Rattle.module.specs.File.{Next, go, stop, ended, record_next, answer_of, onward, read_from, read_module}
use Rattle.module.specs.Tables.{words, reading_of}
use Rattle.std.specs.Prelude.{Result, Ok, Err}
use Rattle.field.specs.declared.refusal.Refusal.{Refusal}
use Rattle.field.specs.Refusal.{number}
use Rattle.reading.specs.Progress.{Progress}
use Rattle.reading.specs.Ends.{next_of}
use Rattle.reading.specs.Steps.{after, Between, Stepped}
use Rattle.reading.specs.Reads.{zeros, no_counts, Passed}
use Rattle.reading.proofs.States.{start_is}
use Rattle.reading.proofs.Zeros.{get_d_zeros}
use Rattle.reading.proofs.Numbers.{from_end, from_next, from_start}

-- `fuel` is more than there are records from `at` on
pub record Left (bytes t seen : List ℕ) (c : Counts) (at : ℕ) : Type 0 where
  pub between : Between bytes t seen c at
  pub fuel : ℕ
  pub enough : length bytes < at + fuel
  pub rest : read_from fuel bytes at (reading_of bytes t c) ≡ read_module bytes

module _ (bytes t seen : List ℕ) where
  module _ (size : length bytes ≤ max_bytes) (table : words ≤ length t) where
    none_yet : Progress bytes t (no_counts (length bytes)) 0
    none_yet =
        record {
          used =
              record {
                fits = record { room = omega arith; types = omega arith; globals = omega arith; functions = omega arith; expressions = omega arith };
                table = table;
                size = size;
                here = omega arith;
                no_locals = λ h. refl;
                no_expressions = λ h. refl;
                no_statements = λ h. refl;
                items = λ f h. absurd (omega arith);
                blocks = λ f h. absurd (omega arith);
                next = λ f h. absurd (omega arith);
              };
          before = λ f h. absurd (omega arith);
          number = λ h. absurd (omega arith);
        }

    pub left_first : (n : ℕ) (c : Counts) → seen ≡ zeros n → values ≤ n → c ≡ no_counts (length bytes) → Left bytes t seen c 0
    left_first n c e v k =
        rw k
        (record {
          between =
              record {
                progress = none_yet;
                unseen =
                    rw e
                    (record {
                      room = rw (length-replicate {A = ℕ} n 0) v;
                      low = λ k. rw (get_d_zeros n k) (omega arith);
                    });
              };
          fuel = suc (length bytes);
          enough = omega arith;
          rest = rw (start_is bytes t) (sym (from_start bytes (le-ltb max_bytes (length bytes) size)));
        })

-- one record, and as much fuel as there is
module _ (bytes t : List ℕ) (c : Counts) (at fuel : ℕ) (enough : length bytes < at + fuel) (rest : read_from fuel bytes at (reading_of bytes t c) ≡ read_module bytes) where
  fuelled : (most : ℕ) → fuel ≡ suc most → at < length bytes → (q : Next) → q ≡ record_next bytes at (reading_of bytes t c) → onward q (read_from most bytes (after bytes at)) ≡ read_module bytes
  fuelled most f h q e =
      ap (λ (k : Next). onward k (read_from most bytes (after bytes at))) e
      ∙ sym (from_next most bytes at (reading_of bytes t c) (lt-leb (length bytes) at h))
      ∙ ap (λ (n : ℕ). read_from n bytes at (reading_of bytes t c)) (sym f)
      ∙ rest

  ended-with : (most : ℕ) → fuel ≡ suc most → length bytes ≤ at → answer_of (ended (reading_of bytes t c)) ≡ read_module bytes
  ended-with most f h =
      sym (from_end most bytes at (reading_of bytes t c) (le-leb (length bytes) at h))
      ∙ ap (λ (n : ℕ). read_from n bytes at (reading_of bytes t c)) (sym f)
      ∙ rest

module _ {bytes t seen : List ℕ} {c : Counts} {at : ℕ} (l : Left bytes t seen c at) where
  pub left_done : length bytes ≤ at → Passed bytes t (Ok c)
  left_done h =
      let e : at ≡ length bytes = omega (arith, l.between.progress.used.here) in
      (rw e at l.between.progress, ended-with bytes t c at l.fuel l.enough l.rest (l.fuel - 1) (omega (arith, l.enough)) h)

  module _ (there : at < length bytes) {u after-seen : List ℕ} {s : Result Counts Refusal} (r : Stepped bytes u after-seen at (record_next bytes at (reading_of bytes t c)) s) where
    pub left_stops : (n : Refusal) → s ≡ Err n → Passed bytes u (Err n)
    unfolding next_of
    left_stops n k =
        let q : stop (number n) ≡ record_next bytes at (reading_of bytes t c) = sym (ap (next_of bytes u) k) ∙ r.is in
        sym (fuelled bytes t c at l.fuel l.enough l.rest (l.fuel - 1) (omega (arith, l.enough)) there (stop (number n)) q)

    pub left_again : (d : Counts) (next : ℕ) → s ≡ Ok d → next ≡ after bytes at → Left bytes u after-seen d next
    unfolding next_of
    left_again d next k e =
        let q : go (reading_of bytes u d) ≡ record_next bytes at (reading_of bytes t c) = sym (ap (next_of bytes u) k) ∙ r.is in
        rw e
        (record {
          between = record { progress = r.progress d k; unseen = r.unseen d k };
          fuel = l.fuel - 1;
          enough = omega (arith, l.enough);
          rest = fuelled bytes t c at l.fuel l.enough l.rest (l.fuel - 1) (omega (arith, l.enough)) there (go (reading_of bytes u d)) q;
        })
