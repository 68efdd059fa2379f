use native.Mathlib.Omega.{arith}
use Rattle.hermitcasket.proofs.SizeLaws.{things-room}
use Rattle.hermitcasket.proofs.ShownLaws.{held-checked, part-first, part-names, part-links}
use Rattle.hermitcasket.proofs.parts.put_part.Goals as goal

pub put_line-requires : goal.put_line-requires
put_line-requires c = things-room _ c.args.out.now (held-checked _ _ _ c.requires.held) c.requires.in_bounds

pub returns-then-k-eq0 : goal.returns-then-k-eq0
returns-then-k-eq0 c = part-first _ _ _ _ _ _ _ c.if-k-eq0.true c.put_line.ensures

pub put_names-requires : goal.put_names-requires
put_names-requires c = record { checked = held-checked _ _ _ c.requires.held; i_bound = omega arith; in_bounds = c.requires.in_bounds }

pub returns-then-k-count : goal.returns-then-k-count
returns-then-k-count c = part-names _ _ _ _ _ _ _ c.if-k-eq0.false c.if-k-count.true c.put_names.ensures

pub put_links-requires : goal.put_links-requires
put_links-requires c = record { checked = held-checked _ _ _ c.requires.held; i_bound = (omega (arith, c.requires.k_bound), omega arith); in_bounds = c.requires.in_bounds }

pub returns : goal.returns
returns c = part-links _ _ _ _ _ _ _ c.if-k-eq0.false c.if-k-count.false c.put_links.ensures
