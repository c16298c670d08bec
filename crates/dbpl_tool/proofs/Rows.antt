-- The laws of each command's row, and what they give of any command.
use Rattle.std.proofs.Common.{◌≡◌, subst}
use Rattle.dbpl_alone.proofs.Stages.{alone_row}
use Rattle.dbpl_base.specs.declared.status.Status.{Status}
use Rattle.dbpl_base.specs.declared.status.Status.TheVariants as status
use Rattle.dbpl_promise.proofs.Determined.{one_due}
use Rattle.dbpl_promise.proofs.Rows.{IsRow}
use Rattle.dbpl_promise.proofs.Unasked.{never_bad_words}
use Rattle.dbpl_promise.specs.Promises.{Answered}
use Rattle.dbpl_promise.specs.Stages.{IsDue}
use Rattle.dbpl_promise.specs.Work.{IsTold, Work}
use Rattle.dbpl_stored_modes.proofs.MadeLaw.{create_row}
use Rattle.dbpl_stored_modes.proofs.Stages.{over_row}
use Rattle.dbpl_tool.specs.Commands.{promise_of}
use Rattle.dbpl_words.specs.Asked.{Asked, Create, Run, RunAlone}

-- THE one place by cases on what is asked
pub row_of : (asked : Asked) → IsRow (promise_of asked)
row_of (RunAlone file) = alone_row file
row_of (Create store) = create_row store
row_of (Run store schema program) = over_row store schema program

-- one answer is due at most
pub one_of : (asked : Asked) (work : Work) (answer other : Status) → IsTold work →
    IsDue (promise_of asked).due work answer → IsDue (promise_of asked).due work other → answer ≡ other
one_of asked work answer other told left right =
    one_due (promise_of asked).due work answer other ((row_of asked).determined work told) left right

-- the promise of what was done is the promise of what is asked
pub kept_as : (did asked : Asked) (work : Work) (answer : Status) → did ≡ asked →
    Answered (promise_of did) work answer → Answered (promise_of asked) work answer
kept_as did asked work answer same kept = subst (λ (a : Asked). Answered (promise_of a) work answer) same kept

-- what is asked for isn't answered as bad words
pub no_bad_words : (asked : Asked) (work : Work) (answer : Status) → Answered (promise_of asked) work answer →
    answer ≡ status.BadWords → ⊥
no_bad_words asked work answer did bad =
    let row = row_of asked in
    let as_bad : Answered (promise_of asked) work status.BadWords = subst (Answered (promise_of asked) work) bad did in
    never_bad_words (promise_of asked).due row.kinds work row.concludes as_bad.answers
