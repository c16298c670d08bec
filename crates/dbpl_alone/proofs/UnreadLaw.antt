-- Why a text is not read as a module.
use Rattle.std.proofs.Common.{◌≢◌, ℕ, List, inl, refl}
use Rattle.dbpl_alone.proofs.ModuleLaw.{module_or_refusal}
use Rattle.dbpl_alone.specs.Modules.{IsNoModule, IsUnreadText}
use Rattle.dbpl_front.specs.Texts.{IsUnspelt}
use Rattle.dbpl_front.specs.declared.front_err.FrontErr.{FrontErr}
use Rattle.dbpl_front.specs.declared.front_err.FrontErr.TheVariants as errors

-- a text without a unit is not read for that reason
pub unspelt_unread : (text : List ℕ) (error : FrontErr) → IsUnspelt 0 text error → IsUnreadText text error
unspelt_unread text (errors.Refused refusal) cause = inl cause
unspelt_unread text errors.Memory cause = tt

-- a text that is refused is no module
pub unread_no_module : (text : List ℕ) (error : FrontErr) → IsUnreadText text error → error ≢ errors.Memory → IsNoModule text
unread_no_module text (errors.Refused refusal) cause some program m =
    module_or_refusal text program refusal.place refusal.rule m cause
unread_no_module text errors.Memory cause some program m = absurd (some refl)
