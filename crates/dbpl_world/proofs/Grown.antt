-- What writes one after another do to the bytes that a writer holds, where those are known.
use Rattle.std.proofs.Common.{ℕ, ◌+◌, ◌≤◌, List, [], ◌++◌, take, drop, refl, ap, sym, ◌∙◌, Option, Some, None, append_assoc, append-nil}
use Rattle.std.proofs.Math.Seq.{take-add}
use Rattle.std.specs.Io.KnownBytes.{Appends, Keeps}
use Rattle.dbpl_world.proofs.Fronts.{take_of_take}

-- after a write that changed nothing
pub grown-kept : (old mid new : Option (List ℕ)) (bytes : List ℕ) → Keeps old mid → Appends mid new bytes → Appends old new bytes
grown-kept None mid new bytes same grows = tt
grown-kept (Some x) None new bytes same grows = absurd same
grown-kept (Some x) (Some y) None bytes same grows = absurd grows
grown-kept (Some x) (Some y) (Some z) bytes same grows = grows ∙ ap (λ front. front ++ bytes) same

pub kept-kept : (old mid new : Option (List ℕ)) → Keeps old mid → Keeps mid new → Keeps old new
kept-kept None mid new first second = tt
kept-kept (Some x) None new first second = absurd first
kept-kept (Some x) (Some y) None first second = absurd second
kept-kept (Some x) (Some y) (Some z) first second = second ∙ first

-- a write of no bytes
pub kept-none : (old new : Option (List ℕ)) → Appends old new [] → Keeps old new
kept-none None new grows = tt
kept-none (Some x) None grows = absurd grows
kept-none (Some x) (Some y) grows = grows ∙ append-nil x

pub grown-none : (old : Option (List ℕ)) → Appends old old []
grown-none None = tt
grown-none (Some x) = sym (append-nil x)

pub kept-same : (old : Option (List ℕ)) → Keeps old old
kept-same None = tt
kept-same (Some x) = refl

-- after a front of the bytes, a front of a piece of the rest
pub grown-more : (bytes : List ℕ) (done k n : ℕ) (old mid new : Option (List ℕ)) → n ≤ k → Appends old mid (take done bytes) → Appends mid new (take n (take k (drop done bytes))) → Appends old new (take (done + n) bytes)
grown-more bytes done k n None mid new within first second = tt
grown-more bytes done k n (Some x) None new within first second = absurd first
grown-more bytes done k n (Some x) (Some y) None within first second = absurd second
grown-more bytes done k n (Some x) (Some y) (Some z) within first second = second
    ∙ ap (λ piece. y ++ piece) (take_of_take n k (drop done bytes) within)
    ∙ ap (λ front. front ++ take n (drop done bytes)) first
    ∙ append_assoc x (take done bytes) (take n (drop done bytes))
    ∙ ap (λ piece. x ++ piece) (sym (take-add done n bytes))
