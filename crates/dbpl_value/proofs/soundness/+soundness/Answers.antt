use Rattle.std.proofs.Common.{◌≡◌, true, false, Bool, ◌&&◌, sym, ap, ◌∙◌}
use Rattle.std.proofs.lemmas.Result.{IfOk-weaker}
use Rattle.dbpl_value.specs.Types.{is_sound, keeps_rules}
use Rattle.dbpl_value.proofs.TypeKinds.{is_sound-Arr, is_sound-Rec, is_sound-Rel, is_sound-Sub, is_sound-other}
use Rattle.dbpl_value.proofs.soundness.+soundness.Goals as goal

pub is_sound-returns-in-Sub : goal.is_sound-returns-in-Sub
is_sound-returns-in-Sub t c =
    let kept = ap keeps_rules (sym c.in-Sub.is) ∙ sym c.in_ok-keeps_rules.ensures ∙ c.if-not-branch.false in
    let all : is_sound c.get.result.now ≡ is_sound c.args.t.now =
    ap is_sound c.get.ensures ∙ sym (ap is_sound c.in-Sub.is ∙ is_sound-Sub c.in-Sub.host c.in-Sub.field-1 c.in-Sub.field-2 kept)
    in
    IfOk-weaker c.is_sound.result _ _ (λ answer e. e ∙ all) c.is_sound.ensures

pub is_sound-returns-then-not-branch-2 : goal.is_sound-returns-then-not-branch-2
is_sound-returns-then-not-branch-2 t c =
    let kept = ap keeps_rules (sym c.in-Arr.is) ∙ sym c.in_ok-keeps_rules.ensures ∙ c.if-not-branch.false in
    let first : is_sound c.in-Arr.index ≡ false =
    ap is_sound (sym c.get-in-Arr.ensures) ∙ sym c.in_ok-is_sound-in-Arr.ensures ∙ c.if-not-branch-2.true
    in
    sym (ap is_sound c.in-Arr.is ∙ is_sound-Arr c.in-Arr.index c.in-Arr.element kept ∙ ap (λ (b : Bool). b && is_sound c.in-Arr.element) first)

pub is_sound-returns-else-not-branch-2 : goal.is_sound-returns-else-not-branch-2
is_sound-returns-else-not-branch-2 t c =
    let kept = ap keeps_rules (sym c.in-Arr.is) ∙ sym c.in_ok-keeps_rules.ensures ∙ c.if-not-branch.false in
    let first : is_sound c.in-Arr.index ≡ true =
    ap is_sound (sym c.get-in-Arr.ensures) ∙ sym c.in_ok-is_sound-in-Arr.ensures ∙ c.if-not-branch-2.false
    in
    let all : is_sound c.get-in-Arr-2.result.now ≡ is_sound c.args.t.now =
    ap is_sound c.get-in-Arr-2.ensures
    ∙ sym (ap is_sound c.in-Arr.is ∙ is_sound-Arr c.in-Arr.index c.in-Arr.element kept ∙ ap (λ (b : Bool). b && is_sound c.in-Arr.element) first)
    in
    IfOk-weaker c.is_sound-in-Arr-2.result _ _ (λ answer e. e ∙ all) c.is_sound-in-Arr-2.ensures

pub is_sound-returns-in-Rec : goal.is_sound-returns-in-Rec
is_sound-returns-in-Rec t c =
    let kept = ap keeps_rules (sym c.in-Rec.is) ∙ sym c.in_ok-keeps_rules.ensures ∙ c.if-not-branch.false in
    IfOk-weaker c.are_sound.result _ _
    (λ answer e. e ∙ sym (ap is_sound c.in-Rec.is ∙ rw (c.as_slice.ensures) (is_sound-Rec c.in-Rec.fields kept)))
    c.are_sound.ensures

pub is_sound-returns-in-Rel : goal.is_sound-returns-in-Rel
is_sound-returns-in-Rel t c =
    let kept = ap keeps_rules (sym c.in-Rel.is) ∙ sym c.in_ok-keeps_rules.ensures ∙ c.if-not-branch.false in
    let all : is_sound c.get-in-Rel.result.now ≡ is_sound c.args.t.now =
    ap is_sound c.get-in-Rel.ensures ∙ sym (ap is_sound c.in-Rel.is ∙ is_sound-Rel c.in-Rel.field-0 c.in-Rel.record kept)
    in
    IfOk-weaker c.is_sound-in-Rel.result _ _ (λ answer e. e ∙ all) c.is_sound-in-Rel.ensures

pub is_sound-returns-in_default : goal.is_sound-returns-in_default
is_sound-returns-in_default t c =
    sym (is_sound-other c.args.t.now (sym c.in_ok-keeps_rules.ensures ∙ c.if-not-branch.false) c.in_default.not-Sub
    c.in_default.not-Arr c.in_default.not-Rec c.in_default.not-Rel)
