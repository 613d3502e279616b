-- The answers of `add_total` are the definition's, by whether f has a total, by the first RayQuery, and by the limit.
use Prim.Native.Nat.{ℕ}
use mathlib.Core.Path.{◌≡◌, subst}
use mathlib.Core.Bool.{true, false}
use mathlib.Core.List.{List}
use mathlib.Core.Option.{some, none as nothing}
use Rattle.std.specs.Prelude.{Option, Some, None, Ok, Err}
use Rattle.field.specs.declared.refusal.Refusal.TheVariants.{Panic, PartLimit}
use Rattle.module.specs.declared.handles.FunctionHandle.{FunctionHandle as Handle}
use Rattle.module.specs.Module.{FunctionHandle}
use Rattle.module.specs.Tables.{module_of}
use Rattle.walk.specs.State.{State, halt, limited_context}
use Rattle.walk.specs.Marks.{body_of, first_ray}
use Rattle.marks.specs.declared.places.MarkPlaces.{MarkPlaces}
use Rattle.marks.specs.declared.totals.MarkTotals.{MarkTotals}
use Rattle.marks.specs.Report.{has_total}
use Rattle.marks.specs.Ray.{ray_in}
use Rattle.std.specs.Prelude.{Option, Some, None}
use Rattle.state.specs.State.{place_of}
use Rattle.state.specs.declared.answer.Place.{Place}
use Rattle.state.specs.declared.answer.Place.TheVariants as position
use Rattle.block.specs.AddTotal.{TotalEnds}
use Rattle.block.proofs.Adds.{FirstTotal, joint, LaterTotal}
use Rattle.block.proofs.Keeping.{beside_total}
use Rattle.block.proofs.Finals.{first_added, first_standing, ray_meets, over_meets, later_added, later_standing}

no-ray : (bytes t : List ℕ) (f : FunctionHandle) (r : Option ℕ) → ray_in r ≡ first_ray (module_of bytes t) f (body_of (module_of bytes t) f) → r ≡ None → nothing ≡ first_ray (module_of bytes t) f (body_of (module_of bytes t) f)
no-ray bytes t f r ray e = subst (λ (x : Option ℕ). ray_in x ≡ first_ray (module_of bytes t) f (body_of (module_of bytes t) f)) e ray

module _ {bytes t : List ℕ} {places : MarkPlaces} {s rs open_marks : List ℕ} {totals : MarkTotals} {f : FunctionHandle} {at sum : ℕ} (visits : ℕ) (here : Place) where
  pub total_first : {us : List ℕ} {after : MarkTotals} {k : ℕ} → has_total totals f ≡ false → FirstTotal t places.starts s rs open_marks totals f at sum k us after
      → TotalEnds bytes t places s rs open_marks totals f at sum visits here (Ok (record { visits = visits; sum = k })) s us after
  total_first e T = record {
    by = λ types held S.
        record {
          is = first_added S e T visits (place_of here);
          few = T.few;
          standing = λ sound small. first_standing S e T sound small;
          beside = beside_total S T.added.made.memory T.added.made.total;
        };
  }

  module _ (there : has_total totals f ≡ true) (r : Option ℕ) (ray : ray_in r ≡ first_ray (module_of bytes t) f (body_of (module_of bytes t) f)) where
    pub total_ray : {g : Handle} {k : ℕ} → g.0 ≡ f → r ≡ Some k → TotalEnds bytes t places s rs open_marks totals f at sum visits here (Err (record { refusal = Panic; place = position.Statement g k })) s rs totals
    total_ray {g} {k} z e = record {
      by = λ types held S.
          let is : some k ≡ first_ray (module_of bytes t) f (body_of (module_of bytes t) f) = subst (λ (x : Option ℕ). ray_in x ≡ first_ray (module_of bytes t) f (body_of (module_of bytes t) f)) e ray in
          rw z (ray_meets S there visits (place_of here) is);
    }

    module _ (e : r ≡ None) where
      pub total_over : {u us : List ℕ} {after : MarkTotals} → ((st : State) → halt 15 (place_of here) ≡ limited_context (place_of here) (joint s rs f at) st)
          → TotalEnds bytes t places s rs open_marks totals f at sum visits here (Err (record { refusal = PartLimit; place = here })) u us after
      total_over o = record { by = λ types held S. over_meets S there visits (place_of here) (no-ray bytes t f r ray e) o }

      pub total_later : {u us : List ℕ} {after : MarkTotals} {k : ℕ} → LaterTotal t places.starts s rs open_marks totals f at sum k u us after
          → TotalEnds bytes t places s rs open_marks totals f at sum visits here (Ok (record { visits = visits; sum = k })) u us after
      total_later T = record {
        by = λ types held S.
            record {
              is = later_added S there visits (place_of here) (no-ray bytes t f r ray e) T;
              few = T.few;
              standing = λ sound small. later_standing S there T sound small;
              beside = beside_total S T.added.made.memory T.added.made.total;
            };
      }
