-- What is read, computed from the rows.
use Rattle.std.proofs.Common.{◌≡◌, ◌+◌, ◌∙◌, ℕ, suc, ℤ, pos, negsuc, Bool, true, false, List, [], ◌∷◌, Option, ap, refl}
use Rattle.std.specs.Prelude.{codes}
use Rattle.dbpl_core.specs.Stores as stores
use Rattle.dbpl_core.specs.Stores.{Store}
use Rattle.dbpl_core.specs.declared.argument_of.CoreArgumentOf.TheVariants as arguments
use Rattle.dbpl_core.specs.declared.cell.Cell.TheVariants as cell
use Rattle.dbpl_core.specs.declared.expr.CoreExpr.{CoreExpr}
use Rattle.dbpl_core.specs.declared.in_out_procedure.InOutProcedure.TheVariants as procedures
use Rattle.dbpl_core.specs.declared.program.Program.{Program}
use Rattle.dbpl_core.specs.declared.stmt.CoreStmtOf.{CoreStmtOf-F, roll-CoreStmtOf}
use Rattle.dbpl_core.specs.declared.stmt.CoreStmtOf.TheOpen as stmts
use Rattle.dbpl_meaning.proofs.Examples.{Statement, c_declared, c_named, card-range, cards, ended-comes, in_out-runs, of-body, opened, here, program_of, start-card, state_with}
use Rattle.dbpl_meaning.proofs.Running.{gives-runs, of_card-runs, row-runs, then}
use Rattle.dbpl_meaning.proofs.TrapExamples.{i_named, int-range, ints, of_int-runs}
use Rattle.dbpl_meaning.specs.Declared.{done_reference, global_reference}
use Rattle.dbpl_meaning.specs.Expressions.{Calls}
use Rattle.dbpl_meaning.specs.InOut.{Referred, performs, reads_into}
use Rattle.dbpl_meaning.specs.Meaning.{Ended, calls_at, meaning}
use Rattle.dbpl_meaning.specs.Numbers.{number_of_bool}
use Rattle.dbpl_meaning.specs.Reading.{front_length, front_of, number_found}
use Rattle.dbpl_meaning.specs.State.{Doing, Done, State}
use Rattle.dbpl_meaning.specs.Statements.{does}
use Rattle.dbpl_meaning.specs.Words.{◌>>=◌, assigns, block, gives, input_left, looks, of_type, replaces, spend, takes_byte, takes_bytes}
use Rattle.dbpl_value.proofs.TypeParts.{by_parts-out}
use Rattle.dbpl_value.proofs.ValuesLemmas.{is_of-out}
use Rattle.dbpl_value.specs.Types.{is_in}
use Rattle.dbpl_value.specs.Values.{is_of, start_level, start_value_of}
use Rattle.dbpl_value.specs.declared.db_type.DbType.TheVariants as kinds
use Rattle.dbpl_value.specs.declared.value.Value.{Value}
use Rattle.dbpl_value.specs.declared.value.Value.TheVariants as value

-- ---- ReadCard(c) three times on the input `12 x7`: c is 12, 0 and 7, and Done TRUE, FALSE and TRUE

abbrev read : CoreStmtOf-F CoreExpr Statement
read = stmts.InOut here procedures.ReadCard (arguments.Variable c_named ∷ [])

abbrev reads : List Statement
reads = roll-CoreStmtOf CoreExpr read ∷ roll-CoreStmtOf CoreExpr read ∷ roll-CoreStmtOf CoreExpr read ∷ []

abbrev reading : Program
reading = program_of c_declared [] reads

abbrev calls : Calls
calls = calls_at reading 9999

-- with this number in c, this value in Done, and this input left
abbrev store_with : ℕ → Bool → List ℕ → Store
store_with n done input = record {
  globals = cell.Holds kinds.Card (value.Num (pos n)) ∷ cell.Holds kinds.Bool (number_of_bool done) ∷ [];
  frames = [] ∷ [] ∷ [];
  database = [];
  input = input;
  events = [];
}

bool-lies : (test : Bool) → is_of kinds.Bool (number_of_bool test) ≡ true
bool-lies true = is_of-out kinds.Bool (value.Num (pos 1)) ∙ rw (kinds.outs-Bool, value.outs-Num (pos 1)) refl
bool-lies false = is_of-out kinds.Bool (value.Num (pos 0)) ∙ rw (kinds.outs-Bool, value.outs-Num (pos 0)) refl

of_bool-runs : (test : Bool) (state : State) → of_type kinds.Bool (number_of_bool test) state ≡ Done (number_of_bool test) state
unfolding gives
of_bool-runs test state = rw (bool-lies test) refl

-- what is found comes into c and Done
into-runs :
    (n m : ℕ) (before after_it : Bool) (input : List ℕ) (left work : ℕ) (found : Option ℤ) → is_in cards (pos m) ≡ true →
    reads_into (global_reference 1) (global_reference 0) found
    ≡ (assigns (global_reference 0) (value.Num (pos m)) >>= (λ _. assigns (global_reference 1) (number_of_bool after_it))) →
    reads_into (global_reference 1) (global_reference 0) found (state_with left work (store_with n before input))
    ≡ Done (tt {0}) (state_with left work (store_with m after_it input))
unfolding assigns looks replaces stores.puts
into-runs n m before after_it input left work found lies is =
    ap (λ (doing : Doing (Unit {0})). doing (state_with left work (store_with n before input))) is
    ∙ then _ _ _ (state_with left work (store_with m before input)) _ _
    (then _ _ _ _ _ _ refl (then _ _ _ _ _ _ (of_card-runs (pos m) _ lies) refl))
    (then _ _ _ _ _ _ refl (then _ _ _ _ _ _ (of_bool-runs after_it _) refl))

-- one ReadCard, with what it takes
read-runs :
    (n m : ℕ) (before after_it : Bool) (input rest : List ℕ) (left work cost : ℕ) →
    takes_bytes (front_length (front_of false input)) (state_with left (work + 1 + 1 + 1) (store_with n before input))
    ≡ Done (tt {0}) (state_with left (work + 1 + 1 + 1 + cost) (store_with n before rest)) →
    is_in cards (pos m) ≡ true →
    reads_into (global_reference 1) (global_reference 0) (number_found cards (front_of false input))
    ≡ (assigns (global_reference 0) (value.Num (pos m)) >>= (λ _. assigns (global_reference 1) (number_of_bool after_it))) →
    does reading calls (roll-CoreStmtOf CoreExpr read) (state_with (suc left) work (store_with n before input))
    ≡ Done (tt {0}) (state_with left (work + 1 + 1 + 1 + cost) (store_with m after_it rest))
unfolding ◌>>=◌ spend gives input_left
read-runs n m before after_it input rest left work cost takes lies is =
    row-runs reading calls read _ _
    (in_out-runs reading here (performs (done_reference reading) procedures.ReadCard (Referred (global_reference 0) ∷ [])) _ _ left refl
    (rw (card-range, takes) (into-runs n m before after_it rest left (work + 1 + 1 + 1 + cost) (number_found cards (front_of false input)) lies is)))

start-bool : start_value_of kinds.Bool ≡ number_of_bool false
start-bool = by_parts-out Value start_level kinds.Bool ∙ rw kinds.outs-Bool refl

abbrev text : List ℕ
text = 49 ∷ 50 ∷ 32 ∷ 120 ∷ 55 ∷ []

reading-begins : (input : List ℕ) → opened reading input 99 ≡ state_with 99 1 (store_with 0 false input)
unfolding stores.opens
reading-begins input = rw (start-card, start-bool) refl

first : does reading calls (roll-CoreStmtOf CoreExpr read) (state_with 99 1 (store_with 0 false text)) ≡ Done (tt {0}) (state_with 98 28 (store_with 12 true (120 ∷ 55 ∷ [])))
unfolding ◌>>=◌ gives takes_byte stores.takes
first = read-runs 0 12 false true text (120 ∷ 55 ∷ []) 98 1 24 refl refl refl

second : does reading calls (roll-CoreStmtOf CoreExpr read) (state_with 98 28 (store_with 12 true (120 ∷ 55 ∷ []))) ≡ Done (tt {0}) (state_with 97 39 (store_with 0 false (55 ∷ [])))
unfolding ◌>>=◌ gives takes_byte stores.takes
second = read-runs 12 0 true false (120 ∷ 55 ∷ []) (55 ∷ []) 97 28 8 refl refl refl

third : does reading calls (roll-CoreStmtOf CoreExpr read) (state_with 97 39 (store_with 0 false (55 ∷ []))) ≡ Done (tt {0}) (state_with 96 50 (store_with 7 true []))
unfolding ◌>>=◌ gives takes_byte stores.takes
third = read-runs 0 7 false true (55 ∷ []) [] 96 39 8 refl refl refl

-- c is 7 and Done TRUE afterwards, and nothing is left of the input
pub reading-does : block (does reading calls) reads (opened reading text 99) ≡ Done (tt {0}) (state_with 96 50 (store_with 7 true []))
reading-does =
    rw (reading-begins text)
    (then (does reading calls (roll-CoreStmtOf CoreExpr read)) _ _ _ _ _ first
    (then (does reading calls (roll-CoreStmtOf CoreExpr read)) _ _ _ _ _ second
    (then (does reading calls (roll-CoreStmtOf CoreExpr read)) _ _ _ _ _ third (gives-runs _ _))))

pub reading-comes : meaning reading [] text 100 ≡ record { events = []; stands = Ended; input = []; work = 50 }
reading-comes = of-body _ _ _ _ _ ∙ ended-comes reading _ text 99 _ reading-does

-- ---- the same on `4294967296 `, which is no CARDINAL but is taken, and at the end of the input

abbrev too_great : List ℕ
too_great = 52 ∷ 50 ∷ 57 ∷ 52 ∷ 57 ∷ 54 ∷ 55 ∷ 50 ∷ 57 ∷ 54 ∷ 32 ∷ []

great-first : does reading calls (roll-CoreStmtOf CoreExpr read) (state_with 99 1 (store_with 0 false too_great)) ≡ Done (tt {0}) (state_with 98 92 (store_with 0 false []))
unfolding ◌>>=◌ gives takes_byte stores.takes
great-first = read-runs 0 0 false false too_great [] 98 1 88 refl refl refl

great-second : does reading calls (roll-CoreStmtOf CoreExpr read) (state_with 98 92 (store_with 0 false [])) ≡ Done (tt {0}) (state_with 97 95 (store_with 0 false []))
unfolding ◌>>=◌ gives takes_byte stores.takes
great-second = read-runs 0 0 false false [] [] 97 92 0 refl refl refl

great-third : does reading calls (roll-CoreStmtOf CoreExpr read) (state_with 97 95 (store_with 0 false [])) ≡ Done (tt {0}) (state_with 96 98 (store_with 0 false []))
unfolding ◌>>=◌ gives takes_byte stores.takes
great-third = read-runs 0 0 false false [] [] 96 95 0 refl refl refl

pub too_great-does : block (does reading calls) reads (opened reading too_great 99) ≡ Done (tt {0}) (state_with 96 98 (store_with 0 false []))
too_great-does =
    rw (reading-begins too_great)
    (then (does reading calls (roll-CoreStmtOf CoreExpr read)) _ _ _ _ _ great-first
    (then (does reading calls (roll-CoreStmtOf CoreExpr read)) _ _ _ _ _ great-second
    (then (does reading calls (roll-CoreStmtOf CoreExpr read)) _ _ _ _ _ great-third (gives-runs _ _))))

pub too_great-comes : meaning reading [] too_great 100 ≡ record { events = []; stands = Ended; input = []; work = 98 }
too_great-comes = of-body _ _ _ _ _ ∙ ended-comes reading _ too_great 99 _ too_great-does

-- ---- ReadInt(i) on ` -7` and on ` +7`

abbrev int_read : CoreStmtOf-F CoreExpr Statement
int_read = stmts.InOut here procedures.ReadInt (arguments.Variable i_named ∷ [])

abbrev int_reading : Program
int_reading = program_of (record { name = codes "i"; kind = kinds.Int } ∷ []) [] (roll-CoreStmtOf CoreExpr int_read ∷ [])

abbrev int_calls : Calls
int_calls = calls_at int_reading 9999

-- with this value in i, this in Done, and this input left
abbrev int_store : Value → Bool → List ℕ → Store
int_store v done input = record {
  globals = cell.Holds kinds.Int v ∷ cell.Holds kinds.Bool (number_of_bool done) ∷ [];
  frames = [] ∷ [] ∷ [];
  database = [];
  input = input;
  events = [];
}

int-into-runs :
    (v : Value) (n : ℤ) (work : ℕ) (found : Option ℤ) → is_in ints n ≡ true →
    reads_into (global_reference 1) (global_reference 0) found
    ≡ (assigns (global_reference 0) (value.Num n) >>= (λ _. assigns (global_reference 1) (number_of_bool true))) →
    reads_into (global_reference 1) (global_reference 0) found (state_with 98 work (int_store v false []))
    ≡ Done (tt {0}) (state_with 98 work (int_store (value.Num n) true []))
unfolding assigns looks replaces stores.puts
int-into-runs v n work found lies is =
    ap (λ (doing : Doing (Unit {0})). doing (state_with 98 work (int_store v false []))) is
    ∙ then _ _ _ (state_with 98 work (int_store (value.Num n) false [])) _ _
    (then _ _ _ _ _ _ refl (then _ _ _ _ _ _ (of_int-runs n _ lies) refl))
    (then _ _ _ _ _ _ refl (then _ _ _ _ _ _ (of_bool-runs true _) refl))

int-read-runs :
    (v : Value) (n : ℤ) (input : List ℕ) →
    takes_bytes (front_length (front_of true input)) (state_with 98 4 (int_store v false input))
    ≡ Done (tt {0}) (state_with 98 28 (int_store v false [])) →
    is_in ints n ≡ true →
    reads_into (global_reference 1) (global_reference 0) (number_found ints (front_of true input))
    ≡ (assigns (global_reference 0) (value.Num n) >>= (λ _. assigns (global_reference 1) (number_of_bool true))) →
    does int_reading int_calls (roll-CoreStmtOf CoreExpr int_read) (state_with 99 1 (int_store v false input))
    ≡ Done (tt {0}) (state_with 98 28 (int_store (value.Num n) true []))
unfolding ◌>>=◌ spend gives input_left
int-read-runs v n input takes lies is =
    row-runs int_reading int_calls int_read _ _
    (in_out-runs int_reading here (performs (done_reference int_reading) procedures.ReadInt (Referred (global_reference 0) ∷ [])) _ _ 98 refl
    (rw (int-range, takes) (int-into-runs v n 28 (number_found ints (front_of true input)) lies is)))

abbrev signed_seven : ℕ → List ℕ
signed_seven sign = 32 ∷ sign ∷ 55 ∷ []

int_reading-begins : (input : List ℕ) → opened int_reading input 99 ≡ state_with 99 1 (int_store (start_value_of kinds.Int) false input)
unfolding stores.opens
int_reading-begins input = rw start-bool refl

-- i is -7 afterwards
pub minus_read-does :
    block (does int_reading int_calls) (roll-CoreStmtOf CoreExpr int_read ∷ []) (opened int_reading (signed_seven 45) 99)
    ≡ Done (tt {0}) (state_with 98 28 (int_store (value.Num (negsuc 6)) true []))
unfolding ◌>>=◌ gives takes_byte stores.takes
minus_read-does =
    rw (int_reading-begins (signed_seven 45))
    (then (does int_reading int_calls (roll-CoreStmtOf CoreExpr int_read)) _ _ _ _ _
    (int-read-runs (start_value_of kinds.Int) (negsuc 6) (signed_seven 45) refl refl refl) (gives-runs _ _))

pub minus_read-comes : meaning int_reading [] (signed_seven 45) 100 ≡ record { events = []; stands = Ended; input = []; work = 28 }
minus_read-comes = of-body _ _ _ _ _ ∙ ended-comes int_reading _ (signed_seven 45) 99 _ minus_read-does

-- i is 7 afterwards
pub plus_read-does :
    block (does int_reading int_calls) (roll-CoreStmtOf CoreExpr int_read ∷ []) (opened int_reading (signed_seven 43) 99)
    ≡ Done (tt {0}) (state_with 98 28 (int_store (value.Num (pos 7)) true []))
unfolding ◌>>=◌ gives takes_byte stores.takes
plus_read-does =
    rw (int_reading-begins (signed_seven 43))
    (then (does int_reading int_calls (roll-CoreStmtOf CoreExpr int_read)) _ _ _ _ _
    (int-read-runs (start_value_of kinds.Int) (pos 7) (signed_seven 43) refl refl refl) (gives-runs _ _))

pub plus_read-comes : meaning int_reading [] (signed_seven 43) 100 ≡ record { events = []; stands = Ended; input = []; work = 28 }
plus_read-comes = of-body _ _ _ _ _ ∙ ended-comes int_reading _ (signed_seven 43) 99 _ plus_read-does
