-- What the words of a command ask for. A word that names a file or a store is UTF-8.
use Rattle.std.specs.Prelude.{◌≡◌, ℕ, List, [], ◌∷◌, codes}
use Rattle.std.specs.Str.{IsUtf8}
use Rattle.dbpl_words.specs.declared.wanted.Request.{Request}
use Rattle.dbpl_words.specs.declared.wanted.Request.TheVariants as request

pub data Asked : Type 0 where
  -- a run of this file alone
  RunAlone : List ℕ → Asked
  -- an empty store of this name
  Create : List ℕ → Asked
  -- a run over this store, where `-` stands for none, of a database module's file and a program's
  Run : List ℕ → List ℕ → List ℕ → Asked

-- The words are `run`, `-` and this file.
pub record AsksAlone (words : List (List ℕ)) (file : List ℕ) : Type 0 where
  pub words_are : words ≡ codes "run" ∷ codes "-" ∷ file ∷ []
  pub utf8 : IsUtf8 file

-- The words are `create` and this store.
pub record AsksToCreate (words : List (List ℕ)) (store : List ℕ) : Type 0 where
  pub words_are : words ≡ codes "create" ∷ store ∷ []
  pub utf8 : IsUtf8 store

-- The words are `run`, this store and these two files.
pub record AsksToRun (words : List (List ℕ)) (store database program : List ℕ) : Type 0 where
  pub words_are : words ≡ codes "run" ∷ store ∷ database ∷ program ∷ []
  pub store_utf8 : IsUtf8 store
  pub database_utf8 : IsUtf8 database
  pub program_utf8 : IsUtf8 program

-- THE request of words, by cases on what is asked
abbrev pub Asks : List (List ℕ) → Asked → Type 0
Asks words (RunAlone file) = AsksAlone words file
Asks words (Create store) = AsksToCreate words store
Asks words (Run store database program) = AsksToRun words store database program

-- what a request of the code asks for
abbrev pub asked_of : Request → Asked
asked_of (request.RunAlone file) = RunAlone file.now
asked_of (request.Create store) = Create store.now
asked_of (request.Run store database program) = Run store.now database.now program.now
