-- Numbers and strings at the front of bytes, step by step.
use Rattle.std.proofs.Common.{◌≡◌, ◌<◌, ◌≤◌, ℕ, List, length, take, drop, Some, None, refl}
use Rattle.std.proofs.lemmas.Bool.{le-ltb, lt-ltb}
use Rattle.byteorder.specs.Endian.{little_number}
use Rattle.dbpl_codec.specs.Reading.{◌>>=◌, word_at}
use Rattle.dbpl_codec.specs.TypeReading.{bytes_at, name_at}

pub word_short : (bytes : List ℕ) → length bytes < 4 → word_at bytes ≡ None
unfolding word_at
word_short bytes h = rw (lt-ltb (length bytes) 4 h) refl

pub word_long : (bytes : List ℕ) → 4 ≤ length bytes → word_at bytes ≡ Some (little_number 4 bytes, drop 4 bytes)
unfolding word_at
word_long bytes h = rw (le-ltb (length bytes) 4 h) refl

pub bytes_short : (count : ℕ) (bytes : List ℕ) → length bytes < count → bytes_at count bytes ≡ None
unfolding bytes_at
bytes_short count bytes h = rw (lt-ltb (length bytes) count h) refl

pub bytes_long :
    (count : ℕ) (bytes : List ℕ) → count ≤ length bytes → bytes_at count bytes ≡ Some (take count bytes, drop count bytes)
unfolding bytes_at
bytes_long count bytes h = rw (le-ltb (length bytes) count h) refl

pub name_steps : (bytes : List ℕ) → name_at bytes ≡ (word_at bytes >>= λ n. bytes_at n.0 n.1)
unfolding name_at
name_steps bytes = refl

pub ruleset steps = (word_short, word_long, bytes_short, bytes_long, name_steps)
