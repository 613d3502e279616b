-- Bindings of one function, computed by the definition. It takes and returns a struct of two four-vectors, the first at location 0 and the
-- second a built-in, 33. Another takes a whole argument at location 5.
use Prim.Native.Nat.{ℕ}
use mathlib.Core.Path.{◌≡◌, refl}
use mathlib.Core.Bool.{true}
use mathlib.Core.List.{List, [], ◌∷◌}
use mathlib.Core.Option.{Option, some, none as nothing}
use Rattle.field.specs.Field.{field_at, word_at}
use Rattle.part.specs.PartReq.{get_subpart, add, merge, on_none, entries, width, depth, over}
use Rattle.module.specs.Module.{Vector, Struct, Function, Module}
use Rattle.module.specs.Knot.{tie, knot}
use Rattle.context.specs.RequiredContext.{pieces, return_entry}
use Rattle.request.specs.Fields.{fields, bytes_of, framed, whole}
use Rattle.request.specs.Part.{read_entries, read_level, by_code, read_part, read_return, read_variables, with_code, write_entries, write_part, write_return, write_variables}
use Rattle.request.specs.Context.{read_lists, read_context_body, context_of, known_context}
use Rattle.request.specs.Request.{read_body, request_of, all_below, known, judge, write_body, write_request}
use Rattle.bindings.specs.Bindings.{own_binding, set_of, list_below}
use Rattle.bindings.specs.TypeBindings.{member_bindings, members_bindings, inner_bindings, step_bindings, get_type_bindings, from_binding, with_entry, members_from, unless_empty, inner_from, step_from, from_type_bindings}
use Rattle.bindings.specs.ContextBindings.{bound_part, arg_bindings, both as both_needed, args_bindings, input_to_bindings, listed, input_list, result_from, output_from_bindings, add_binding, refused, refused_at, accepted, of_function, as_request, binding_after, are_bindings, output_request, add_request}
use Rattle.bindings_request.specs.Inputs.{within_pieces, inputs_of, input_for, input_bytes}
use Rattle.bindings_request.specs.Boundary.{own_number, on_read, written, add_bytes, output_bytes}

abbrev taking : Option ℕ → Function
taking b =
    record {
      entry = true;
      result = some (record { type = 1; binding = nothing });
      arguments = record { type = 1; binding = b } ∷ [];
      locals = [];
      expressions = [];
      statements = [];
      blocks = [];
    }

abbrev model : Module
model =
    record {
      types =
          Vector 4
          ∷ Struct ((record { type = 0; binding = some 0 }) ∷ (record { type = 0; binding = some 33 }) ∷ [])
          ∷ [];
      globals = [];
      functions = taking nothing ∷ taking (some 5) ∷ [];
    }

-- {1:all} returned
abbrev second : List ℕ
second = 82 ∷ 81 ∷ 12 ∷ 0 ∷ 0 ∷ 0 ∷ 2 ∷ 0 ∷ 1 ∷ 0 ∷ 1 ∷ 0 ∷ 0 ∷ 0 ∷ 0 ∷ 0 ∷ []

-- {0:all,1:all} returned
abbrev both : List ℕ
both = 82 ∷ 81 ∷ 16 ∷ 0 ∷ 0 ∷ 0 ∷ 2 ∷ 0 ∷ 2 ∷ 0 ∷ 0 ∷ 0 ∷ 0 ∷ 0 ∷ 1 ∷ 0 ∷ 0 ∷ 0 ∷ 0 ∷ 0 ∷ []

-- the built-in is asked for
asks_second : output_bytes model 65536 0 (33 ∷ []) ≡ accepted second
unfolding output_bytes written output_request are_bindings binding_after set_of of_function output_from_bindings result_from from_binding from_type_bindings knot tie step_from inner_from members_from with_entry unless_empty return_entry as_request over depth width entries pieces write_request write_body write_return write_part with_code write_entries write_variables bytes_of
asks_second = refl

-- and then the location too
adds_first : add_bytes model 65536 0 second ≡ accepted both
unfolding add_bytes on_read request_of framed field_at fields read_body read_return read_variables read_entries read_part read_level by_code whole judge known all_below return_entry add_request add_binding add merge on_none written of_function output_from_bindings result_from from_binding from_type_bindings knot tie step_from inner_from members_from with_entry unless_empty as_request over depth width entries pieces write_request write_body write_return write_part with_code write_entries write_variables bytes_of
adds_first = refl

-- a binding above 63, a slice too short, a function that is not there
above : add_bytes model 65536 64 second ≡ refused 12
unfolding add_bytes
above = refl

short : add_bytes model 65535 0 second ≡ refused 20
unfolding add_bytes on_read own_number request_of framed field_at fields read_body read_return read_variables read_entries read_part read_level by_code whole judge known all_below
short = refl

no-function : output_bytes model 65536 2 (33 ∷ []) ≡ refused 11
unfolding output_bytes are_bindings binding_after
no-function = refl

-- a list that falls, one with a binding twice
falls : output_bytes model 65536 0 (9 ∷ 7 ∷ []) ≡ refused 12
unfolding output_bytes are_bindings binding_after
falls = refl

twice : output_bytes model 65536 0 (7 ∷ 7 ∷ []) ≡ refused 12
unfolding output_bytes are_bindings binding_after
twice = refl

-- contexts that need argument 0 whole, and its entry 0 alone
abbrev whole_argument : List ℕ
whole_argument = 67 ∷ 88 ∷ 12 ∷ 0 ∷ 0 ∷ 0 ∷ 3 ∷ 0 ∷ 0 ∷ 0 ∷ 1 ∷ 0 ∷ 0 ∷ 0 ∷ 0 ∷ 0 ∷ 0 ∷ 0 ∷ []

abbrev part_argument : List ℕ
part_argument = 67 ∷ 88 ∷ 18 ∷ 0 ∷ 0 ∷ 0 ∷ 3 ∷ 0 ∷ 0 ∷ 0 ∷ 1 ∷ 0 ∷ 0 ∷ 0 ∷ 2 ∷ 0 ∷ 1 ∷ 0 ∷ 0 ∷ 0 ∷ 0 ∷ 0 ∷ 0 ∷ 0 ∷ []

lists_both : input_bytes model 64 0 whole_argument ≡ accepted (0 ∷ 33 ∷ [])
unfolding input_bytes input_for context_of framed word_at field_at fields read_context_body read_lists read_return read_variables read_entries read_part read_level by_code whole return_entry known_context all_below inputs_of within_pieces pieces entries input_list listed of_function input_to_bindings args_bindings both_needed arg_bindings bound_part own_binding get_type_bindings step_bindings inner_bindings members_bindings member_bindings get_subpart knot tie list_below
lists_both = refl

lists_first : input_bytes model 64 0 part_argument ≡ accepted (0 ∷ [])
unfolding input_bytes input_for context_of framed word_at field_at fields read_context_body read_lists read_return read_variables read_entries read_part read_level by_code whole return_entry known_context all_below inputs_of within_pieces pieces entries input_list listed of_function input_to_bindings args_bindings both_needed arg_bindings bound_part own_binding get_type_bindings step_bindings inner_bindings members_bindings member_bindings get_subpart knot tie list_below
lists_first = refl

-- with its own binding
lists_own : input_bytes model 64 1 whole_argument ≡ accepted (0 ∷ 5 ∷ 33 ∷ [])
unfolding input_bytes input_for context_of framed word_at field_at fields read_context_body read_lists read_return read_variables read_entries read_part read_level by_code whole return_entry known_context all_below inputs_of within_pieces pieces entries input_list listed of_function input_to_bindings args_bindings both_needed arg_bindings bound_part own_binding get_type_bindings step_bindings inner_bindings members_bindings member_bindings get_subpart knot tie list_below
lists_own = refl

-- what is bound and needed in part is the Rust's assertion, at argument 0
asserted : input_bytes model 64 1 part_argument ≡ refused_at 13 0
unfolding input_bytes input_for context_of framed word_at field_at fields read_context_body read_lists read_return read_variables read_entries read_part read_level by_code whole return_entry known_context all_below inputs_of within_pieces pieces entries input_list listed of_function input_to_bindings args_bindings both_needed arg_bindings bound_part own_binding get_type_bindings step_bindings inner_bindings members_bindings member_bindings get_subpart knot tie list_below
asserted = refl
