-- What a list of phrases gives, where each of them must be of a form.
use Rattle.std.specs.Prelude.{Bool, if◌then◌else◌, List, [], ◌∷◌, ◌++◌, Option, Some, None, option_map}

-- it, if it passes the test
abbrev pub passing : {A : Type 0} → (A → Bool) → A → Option A
passing test x = if test x then Some x else None

-- these, and behind them the others, if there are both
abbrev pub joined : {A : Type 0} → Option (List A) → Option (List A) → Option (List A)
joined None behind = None
joined (Some front) behind = option_map (λ rest. front ++ rest) behind

-- what each gives, one behind the other, if each is of the form
abbrev pub joined_all : {A B : Type 0} → (A → Option (List B)) → List A → Option (List B)
joined_all gives [] = Some []
joined_all gives (x ∷ xs) = joined (gives x) (joined_all gives xs)

-- a list of the one, if there is one
abbrev pub one_of : {A : Type 0} → Option A → Option (List A)
one_of found = option_map (λ x. x ∷ []) found
