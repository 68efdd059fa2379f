use mathlib.Core.Path.{◌∙◌}
use mathlib.Core.Path.{sym, ap}
use Rattle.subsumption.specs.Refusal.{code_of}
use Rattle.subsumption.proofs.refusal.code_of.Goals as goal

pub returns-in-Limit : goal.returns-in-Limit
returns-in-Limit c = c.row.ensures ∙ ap code_of (sym c.in-Limit.is)

pub returns-in-Malformed : goal.returns-in-Malformed
returns-in-Malformed c = c.row-in-Malformed.ensures ∙ ap code_of (sym c.in-Malformed.is)

pub returns-in-ForwardId : goal.returns-in-ForwardId
returns-in-ForwardId c = c.row-in-ForwardId.ensures ∙ ap code_of (sym c.in-ForwardId.is)

pub returns-in-NoConcept : goal.returns-in-NoConcept
returns-in-NoConcept c = c.row-in-NoConcept.ensures ∙ ap code_of (sym c.in-NoConcept.is)

pub returns-in-VariableInInclusion : goal.returns-in-VariableInInclusion
returns-in-VariableInInclusion c = c.row-in-VariableInInclusion.ensures ∙ ap code_of (sym c.in-VariableInInclusion.is)

pub returns-in-VariablesOnBothSides : goal.returns-in-VariablesOnBothSides
returns-in-VariablesOnBothSides c = c.row-in-VariablesOnBothSides.ensures ∙ ap code_of (sym c.in-VariablesOnBothSides.is)

pub returns-in-TooManyAtoms : goal.returns-in-TooManyAtoms
returns-in-TooManyAtoms c = c.row-in-TooManyAtoms.ensures ∙ ap code_of (sym c.in-TooManyAtoms.is)

pub returns-in-BufferTooShort : goal.returns-in-BufferTooShort
returns-in-BufferTooShort c = c.row-in-BufferTooShort.ensures ∙ ap code_of (sym c.in-BufferTooShort.is)

pub returns-in-BadAssignment : goal.returns-in-BadAssignment
returns-in-BadAssignment c = c.row-in-BadAssignment.ensures ∙ ap code_of (sym c.in-BadAssignment.is)

pub returns-in-NoAssignment : goal.returns-in-NoAssignment
returns-in-NoAssignment c = c.row-in-NoAssignment.ensures ∙ ap code_of (sym c.in-NoAssignment.is)

pub returns-in-NotSubsumed : goal.returns-in-NotSubsumed
returns-in-NotSubsumed c = c.row-in-NotSubsumed.ensures ∙ ap code_of (sym c.in-NotSubsumed.is)

pub returns-in-BadDerivation : goal.returns-in-BadDerivation
returns-in-BadDerivation c = c.row-in-BadDerivation.ensures ∙ ap code_of (sym c.in-BadDerivation.is)

pub returns-in-BadText : goal.returns-in-BadText
returns-in-BadText c = c.row-in-BadText.ensures ∙ ap code_of (sym c.in-BadText.is)

pub returns-in-AllowanceSpent : goal.returns-in-AllowanceSpent
returns-in-AllowanceSpent c = c.row-in-AllowanceSpent.ensures ∙ ap code_of (sym c.in-AllowanceSpent.is)

pub returns-in-NoCountermodel : goal.returns-in-NoCountermodel
returns-in-NoCountermodel c = c.row-in-NoCountermodel.ensures ∙ ap code_of (sym c.in-NoCountermodel.is)

pub returns-in-BadRole : goal.returns-in-BadRole
returns-in-BadRole c = c.row-in-BadRole.ensures ∙ ap code_of (sym c.in-BadRole.is)

pub returns-in-BadSyntax : goal.returns-in-BadSyntax
returns-in-BadSyntax c = c.row-in-BadSyntax.ensures ∙ ap code_of (sym c.in-BadSyntax.is)

pub returns-in-TooDeep : goal.returns-in-TooDeep
returns-in-TooDeep c = c.row-in-TooDeep.ensures ∙ ap code_of (sym c.in-TooDeep.is)

pub returns-in-BadSettings : goal.returns-in-BadSettings
returns-in-BadSettings c = c.row-in-BadSettings.ensures ∙ ap code_of (sym c.in-BadSettings.is)

pub returns-in-BadBatch : goal.returns-in-BadBatch
returns-in-BadBatch c = c.row-in-BadBatch.ensures ∙ ap code_of (sym c.in-BadBatch.is)

pub returns-in-BadOrder : goal.returns-in-BadOrder
returns-in-BadOrder c = c.row-in-BadOrder.ensures ∙ ap code_of (sym c.in-BadOrder.is)

pub returns-in-ForwardInOrder : goal.returns-in-ForwardInOrder
returns-in-ForwardInOrder c = c.row-in-ForwardInOrder.ensures ∙ ap code_of (sym c.in-ForwardInOrder.is)
