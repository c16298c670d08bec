-- A database that is spelled is read, and what is read was spelled so.
use Rattle.std.proofs.Common.{◌≡◌, ◌<◌, ◌^◌, ℕ, true, if◌then◌else◌, List, [], ◌++◌, length, Option, Some, None, Result, Ok, Err, refl, sym, ap, subst, ◌∙◌, append_assoc}
use Rattle.std.proofs.lemmas.Bool.{lt-ltb, ltb-true}
use Rattle.std.proofs.lemmas.List.{append-nil}
use Rattle.std.specs.Cmp.{first_so, second_so}
use Rattle.std.specs.Cmp.Derive.{both_true}
use Rattle.std.specs.List.{flat_map, list_all}
use Rattle.byteorder.specs.Endian.{little_bytes}
use Rattle.dbpl_codec.proofs.ByteLaws.{IsBytes, word_at-again, word_at-takes}
use Rattle.dbpl_codec.proofs.ListLaws.{Completes, Sound, Spelled, bind_some, repeat-completes, repeat-sound}
use Rattle.dbpl_codec.proofs.WholeLaws.{whole_some}
use Rattle.dbpl_codec.specs.Numbers.{count_bytes, count_fits}
use Rattle.std.specs.Prelude.{IfOk}
use Rattle.dbpl_codec.specs.Reading.{Gives, ◌>>=◌, repeat, whole, word_at}
use Rattle.dbpl_codec.specs.declared.read_err.ReadErr.{ReadErr}
use Rattle.dbpl_database.proofs.BoundLaws.{bound-completes, bound-sound, passed}
use Rattle.dbpl_value.specs.Databases.{is_bound, is_database, names_rise}
use Rattle.dbpl_database.specs.Reading.{bound_at, bounds_at, database_of}
use Rattle.dbpl_database.specs.Spelling.{bound_bytes, bound_fits, database_bytes, database_fits}
use Rattle.dbpl_value.specs.declared.bound.Bound.{Bound}

bounds-completes : Completes (list_all is_bound) database_fits database_bytes bounds_at
unfolding bounds_at
bounds-completes database rest typed fits =
    let count : word_at (database_bytes database ++ rest) ≡ Some (length database, flat_map bound_bytes database ++ rest) =
    ap (λ (bytes : List ℕ). word_at bytes) (append_assoc (count_bytes database) (flat_map bound_bytes database) rest)
    ∙ word_at-again (length database) (flat_map bound_bytes database ++ rest)
    (ltb-true (length database) (2 ^ 32) (first_so (count_fits database) (list_all bound_fits database) fits))
    in
    ap (λ (r : Option (ℕ × List ℕ)). r >>= λ n. repeat bound_at n.0 [] n.1) count
    ∙ repeat-completes is_bound bound_fits bound_bytes bound_at bound-completes database [] rest typed
    (second_so (count_fits database) (list_all bound_fits database) fits)

bounds-sound : Sound (list_all is_bound) database_fits database_bytes bounds_at
unfolding bounds_at
bounds-sound bytes database rest h e =
    let head = bind_some (word_at bytes) (λ n. repeat bound_at n.0 [] n.1) (database, rest) e in
    let word = word_at-takes bytes head.0.0 head.0.1 h head.1 in
    let got =
    repeat-sound is_bound bound_fits bound_bytes bound_at bound-sound head.0.0 [] head.0.1 database rest word.left head.2
    in
    let same : got.items ≡ database = sym got.behind in
    let long : length database ≡ head.0.0 = ap (λ (bs : List Bound). length bs) (sym same) ∙ got.long in
    let below : length database < 2 ^ 32 = rw long word.below in
    let spelled =
    subst (λ (bs : List Bound). Spelled (list_all is_bound bs) (list_all bound_fits bs) head.0.1 (flat_map bound_bytes bs) rest)
    same got.spelled
    in
    record {
      sort = spelled.sort;
      fit = both_true (lt-ltb (length database) (2 ^ 32) below) spelled.fit;
      parts = word.parts ∙ ap (λ (n : ℕ). little_bytes 4 n ++ head.0.1) (sym long)
          ∙ ap (λ (bs : List ℕ). count_bytes database ++ bs) spelled.parts
          ∙ sym (append_assoc (count_bytes database) (flat_map bound_bytes database) rest);
      left = spelled.left;
    }

abbrev risen : List Bound → Option (List Bound)
risen database = if names_rise database then Some database else None

pub database_of-completes :
    (database : List Bound) → is_database database ≡ true → database_fits database ≡ true →
    database_of (database_bytes database) ≡ Some database
unfolding database_of
database_of-completes database kept fits =
    let bound = first_so (list_all is_bound database) (names_rise database) kept in
    let rising = second_so (list_all is_bound database) (names_rise database) kept in
    let read : bounds_at (database_bytes database) ≡ Some (database, []) =
    ap (λ (bs : List ℕ). bounds_at bs) (sym (append-nil (database_bytes database))) ∙ bounds-completes database [] bound fits
    in
    ap (λ (r : Option (List Bound × List ℕ)). whole r >>= risen) read ∙ rw rising refl

pub database_of-sound :
    (bytes : List ℕ) (database : List Bound) → IsBytes bytes → database_of bytes ≡ Some database →
    (is_database database ≡ true) × (database_fits database ≡ true) × (bytes ≡ database_bytes database)
unfolding database_of
database_of-sound bytes database h e =
    let step = bind_some (whole (bounds_at bytes)) risen database e in
    let both = passed step.0 database (names_rise step.0) step.2 in
    let spelled =
    bounds-sound bytes database [] h
    (whole_some (bounds_at bytes) database (step.1 ∙ ap (λ (d : List Bound). Some d) both.1))
    in (
      both_true spelled.sort (ap names_rise (sym both.1) ∙ both.0),
      spelled.fit,
      spelled.parts ∙ append-nil (database_bytes database),
    )

pub database_found :
    (bytes : List ℕ) (result : Result (List Bound) ReadErr) → IsBytes bytes →
    Gives (λ database. database) result (database_of bytes) →
    IfOk result (λ database. (is_database database ≡ true) × (database_fits database ≡ true) × (bytes ≡ database_bytes database))
database_found bytes (Ok database) h read = database_of-sound bytes database h read
database_found bytes (Err e) h read = tt
