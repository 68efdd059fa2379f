use Rattle.numerals.proofs.WriteLaws.{refused-room}
use Rattle.hermitcasket.proofs.ProgramLaws.{wrote_none, wrote-code}
use native.Mathlib.Omega.{arith}
use Rattle.hermitcasket.proofs.answer.answer_refused.Goals as goal

pub returns-then-code-eq10 : goal.returns-then-code-eq10
returns-then-code-eq10 c = wrote_none c.args.refusal c.code_of-code.result c.code_of-code.ensures _ _ _ c.if-code-eq10.true c.put_none.ensures

pub put_refused-requires : goal.put_refused-requires
put_refused-requires c = refused-room c.code_of-code.result c.args.out.now (omega (arith, c.code_of-code.type_inv)) (omega (arith, c.code_of-code.type_inv)) c.requires

pub returns : goal.returns
returns c = wrote-code c.args.refusal c.code_of-code.result c.code_of-code.ensures _ _ _ c.if-code-eq10.false c.put_refused.ensures
