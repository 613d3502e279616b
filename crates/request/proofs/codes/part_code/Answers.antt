-- `request::codes::part_code` meets its contract: one law for each way.
use mathlib.Core.Logic.{inl, inr}
use Rattle.request.proofs.Steps.{code_short, code_all, code_exist, code_unknown, code_deep, code_ends, code_wide, code_entries}
use Rattle.request.proofs.codes.part_code.Goals as goal

pub returns-in_err-code : goal.returns-in_err-code
returns-in_err-code c = rw c.from_residual.ensures (code_short c.in_err-code.ensures)

pub returns-then-code-eq-ALL_CODE : goal.returns-then-code-eq-ALL_CODE
returns-then-code-eq-ALL_CODE c = code_all c.in_ok-code.ensures c.if-code-eq-ALL_CODE.true

pub returns-then-code-eq-EXIST_CODE : goal.returns-then-code-eq-EXIST_CODE
returns-then-code-eq-EXIST_CODE c = code_exist c.in_ok-code.ensures c.if-code-eq-EXIST_CODE.true

pub returns-then-code-ne-ENTRIES_CODE : goal.returns-then-code-ne-ENTRIES_CODE
returns-then-code-ne-ENTRIES_CODE c =
    elim c.then-code-ne-ENTRIES_CODE.either [
      | inl h ↦ code_unknown c.in_ok-code.ensures c.if-code-eq-ALL_CODE.false c.if-code-eq-EXIST_CODE.false h
      | inr h ↦ code_deep c.in_ok-code.ensures h.0 h.1
    ]

pub returns-in_err-count : goal.returns-in_err-count
returns-in_err-count c =
    rw c.from_residual-in_err-count.ensures (code_ends c.in_ok-code.ensures c.if-code-ne-ENTRIES_CODE.false c.if-depth-eq0.false c.in_err-count.ensures)

pub returns-then-count-gt-MAX_ENTRIES : goal.returns-then-count-gt-MAX_ENTRIES
returns-then-count-gt-MAX_ENTRIES c =
    code_wide c.in_ok-code.ensures c.if-code-ne-ENTRIES_CODE.false c.if-depth-eq0.false c.in_ok-count.ensures c.if-count-gt-MAX_ENTRIES.true

pub returns : goal.returns
returns c =
    code_entries c.in_ok-code.ensures c.if-code-ne-ENTRIES_CODE.false c.if-depth-eq0.false c.in_ok-count.ensures c.if-count-gt-MAX_ENTRIES.false
