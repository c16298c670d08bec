-- What is made of a reading, in words that a clause may have.
use Rattle.dbpl_grammar.specs.Reading.{Parser, ◌<$>◌}

abbrev pub made : {A B : Type 0} → (A → B) → Parser A → Parser B
made make read = make <$> read
