-- By cases on the turns left, and by the law of each phrase.
use Rattle.dbpl_meaning.proofs.Loops.{for-unrolls, is-for, is-loop, is-repeat, is-while, loop-unrolls, repeat-unrolls, while-unrolls}
use Rattle.dbpl_meaning.proofs.Steady.{turn-none, turn-one}
use Rattle.dbpl_meaning.proofs.Trees.{steady_calls, steady_does_of, steady_value_of}
use Rattle.dbpl_meaning.proofs.Whole.{runs-fewer, runs-paid}
use Rattle.dbpl_meaning.proofs.laws.loops_take_turns.Goals as goal

pub returns-clause-none : goal.returns-clause-none
returns-clause-none c = λ doing state none. turn-none doing state none

pub returns-clause-one : goal.returns-clause-one
returns-clause-one c = λ doing state left one. turn-one doing state left one

pub returns-clause-while_unrolls : goal.returns-clause-while_unrolls
returns-clause-while_unrolls c = while-unrolls

pub returns-clause-repeat_unrolls : goal.returns-clause-repeat_unrolls
returns-clause-repeat_unrolls c = repeat-unrolls

pub returns-clause-loop_unrolls : goal.returns-clause-loop_unrolls
returns-clause-loop_unrolls c = loop-unrolls

pub returns-clause-for_unrolls : goal.returns-clause-for_unrolls
returns-clause-for_unrolls c = for-unrolls

pub returns-clause-while_turns : goal.returns-clause-while_turns
returns-clause-while_turns c = is-while

pub returns-clause-repeat_turns : goal.returns-clause-repeat_turns
returns-clause-repeat_turns c = is-repeat

pub returns-clause-loop_turns : goal.returns-clause-loop_turns
returns-clause-loop_turns c = is-loop

pub returns-clause-for_turns : goal.returns-clause-for_turns
returns-clause-for_turns c = is-for

pub returns-clause-left_by_expressions : goal.returns-clause-left_by_expressions
returns-clause-left_by_expressions c = λ program room e state.
    (steady_value_of program _ (steady_calls program room) e).keeps.fewer state

pub returns-clause-left_by_statements : goal.returns-clause-left_by_statements
returns-clause-left_by_statements c = λ program room s state.
    (steady_does_of program _ (steady_calls program room) s).keeps.fewer state

pub returns-clause-left : goal.returns-clause-left
returns-clause-left c = runs-fewer

pub returns-clause-paid : goal.returns-clause-paid
returns-clause-paid c = runs-paid
