use native.Mathlib.Omega.{arith}
use Rattle.subsumption.proofs.Refusals.{is-done, handed_up}
use Rattle.renumbering.proofs.OperationLaws.{accepted-few, accepted-inward, listed-long, tables-refuse, tables-pass, order-refuses, rising-refuses, concepts-short, inclusions-short, questions-short, all_pass}
use Rattle.renumbering.proofs.renumber.check_renumbering.Goals as goal

pub returns-in_err-check_tables : goal.returns-in_err-check_tables
returns-in_err-check_tables c = rw (handed_up _ c.from_residual.ensures) (tables-refuse _ _ _ _ _ _ c.check_tables.ensures _ c.in_err-check_tables.was)

pub check_order-requires : goal.check_order-requires
check_order-requires c = accepted-few _ (tables-pass _ c.args.order.now 0 0 0 _ c.check_tables.ensures c.in_ok-check_tables.was)

pub returns-in_err-check_order : goal.returns-in_err-check_order
returns-in_err-check_order c = rw (handed_up _ c.from_residual-in_err-check_order.ensures) (order-refuses _ _ _ _ _ (tables-pass _ c.args.order.now 0 0 0 _ c.check_tables.ensures c.in_ok-check_tables.was) _ c.check_order.ensures _ c.in_err-check_order.was)

pub check_rising-requires : goal.check_rising-requires
check_rising-requires c = record { inward = accepted-inward _ (tables-pass _ c.args.order.now 0 0 0 _ c.check_tables.ensures c.in_ok-check_tables.was); order_len = listed-long _ (tables-pass _ c.args.order.now 0 0 0 _ c.check_tables.ensures c.in_ok-check_tables.was) _ (is-done _ _ c.check_order.ensures c.in_ok-check_order.was) }

pub returns-in_err-check_rising : goal.returns-in_err-check_rising
returns-in_err-check_rising c = rw (handed_up _ c.from_residual-in_err-check_rising.ensures) (rising-refuses _ _ _ _ _ (tables-pass _ c.args.order.now 0 0 0 _ c.check_tables.ensures c.in_ok-check_tables.was) (is-done _ _ c.check_order.ensures c.in_ok-check_order.was) _ c.check_rising.ensures _ c.in_err-check_rising.was)

pub returns-then-concepts_size-tables : goal.returns-then-concepts_size-tables
returns-then-concepts_size-tables c = concepts-short _ _ _ _ _ (tables-pass _ c.args.order.now 0 0 0 _ c.check_tables.ensures c.in_ok-check_tables.was) (is-done _ _ c.check_order.ensures c.in_ok-check_order.was) _ c.check_rising.ensures c.in_ok-check_rising.was (omega arith)

pub returns-then-inclusions_size-tables : goal.returns-then-inclusions_size-tables
returns-then-inclusions_size-tables c = inclusions-short _ _ _ _ _ (tables-pass _ c.args.order.now 0 0 0 _ c.check_tables.ensures c.in_ok-check_tables.was) (is-done _ _ c.check_order.ensures c.in_ok-check_order.was) _ c.check_rising.ensures c.in_ok-check_rising.was (omega arith) (omega arith)

pub returns-then-questions_size-tables : goal.returns-then-questions_size-tables
returns-then-questions_size-tables c = questions-short _ _ _ _ _ (tables-pass _ c.args.order.now 0 0 0 _ c.check_tables.ensures c.in_ok-check_tables.was) (is-done _ _ c.check_order.ensures c.in_ok-check_order.was) _ c.check_rising.ensures c.in_ok-check_rising.was (omega arith) (omega arith) (omega arith)

pub returns : goal.returns
returns c = all_pass _ _ _ _ _ (tables-pass _ c.args.order.now 0 0 0 _ c.check_tables.ensures c.in_ok-check_tables.was) (is-done _ _ c.check_order.ensures c.in_ok-check_order.was) _ c.check_rising.ensures c.in_ok-check_rising.was (omega arith) (omega arith) (omega arith)
