-- `asks::ask::ask` meets its contract: each arm tells what the arm of its kind asks. Assumes nothing.
use Rattle.asks.proofs.ArmOf.{letters-below, asks_index, asks_constant, asks_swizzle, asks_compose, asks_argument, asks_global, asks_local, asks_positions, asks_fields}
use borrow.Author.Rules.{rules}
use Rattle.asks.proofs.ask.ask.Goals as goal

pub swizzle_ask-requires-clause-each_below : goal.swizzle_ask-requires-clause-each_below
swizzle_ask-requires-clause-each_below c = letters-below c.requires.there c.expression-row.ensures (search rules)

pub returns-in-Ok-AccessIndex : goal.returns-in-Ok-AccessIndex
returns-in-Ok-AccessIndex c = asks_index c.requires.there c.expression-row.ensures (search rules) c.access_index.ensures

pub returns-in-Ok-Constant : goal.returns-in-Ok-Constant
returns-in-Ok-Constant c = asks_constant c.requires.there c.expression-row.ensures (search rules) c.constant.ensures

pub returns-in-Ok-Swizzle : goal.returns-in-Ok-Swizzle
returns-in-Ok-Swizzle c = asks_swizzle c.requires.there c.expression-row.ensures (search rules) c.swizzle_ask.ensures

pub returns-in-Ok-Compose : goal.returns-in-Ok-Compose
returns-in-Ok-Compose c = asks_compose c.requires.there c.expression-row.ensures (search rules) c.compose.ensures

pub returns-in-Ok-FunctionArgument : goal.returns-in-Ok-FunctionArgument
returns-in-Ok-FunctionArgument c =
    asks_argument c.requires.there c.expression-row.ensures (search rules) c.operand.ensures c.only.ensures

pub returns-in-Ok-GlobalVariable : goal.returns-in-Ok-GlobalVariable
returns-in-Ok-GlobalVariable c =
    asks_global c.requires.there c.expression-row.ensures (search rules) c.global_operand.ensures c.only-in-Ok-GlobalVariable.ensures

pub returns-in-Ok-LocalVariable : goal.returns-in-Ok-LocalVariable
returns-in-Ok-LocalVariable c =
    asks_local c.requires.there c.expression-row.ensures (search rules) c.local_operand.ensures c.only-in-Ok-LocalVariable.ensures

pub returns-in-Ok-RayQueryVertexPositions : goal.returns-in-Ok-RayQueryVertexPositions
returns-in-Ok-RayQueryVertexPositions c =
    asks_positions c.requires.there c.expression-row.ensures (search rules) c.only-in-Ok-RayQueryVertexPositions.ensures

pub returns-in_default : goal.returns-in_default
returns-in_default c =
    asks_fields c.requires.there c.expression-row.ensures (record { access_index = search rules; constant = search rules; swizzle = search rules; compose = search rules; argument = search rules; global = search rules; local = search rules; positions = search rules }) c.field_ask.ensures
