-- One level of a recursion on a type: its answer is made of the answers of the types that stand in it.
use Rattle.std.proofs.Common.{◌≡◌, sym, ap, subst, ◌∙◌}
use Rattle.dbpl_value.specs.Types.{by_answers, by_parts}
use Rattle.dbpl_value.specs.declared.db_type.DbType.{DbType, DbType-F, fold_out-DbType, ind-DbType, map-DbType, out-DbType, para-roll-DbType, roll-DbType, roll-out-DbType}
use Rattle.dbpl_value.specs.declared.field.Field.{Field, Field-F, fold_out-Field, out-Field, para-Field, para-roll-Field, roll-out-Field}

module _ (A : Type 0) where
  pub by_answers-out :
      (answer : DbType-F A A → A) (t : DbType) →
      by_answers A answer t
      ≡ answer
      (map-DbType DbType Field A A (by_answers A answer) (λ field. by_answers A answer field.kind) (out-DbType t))
  by_answers-out answer t =
      fold_out-DbType A A answer (λ field. field.kind) t
      ∙ ap
      (λ (h : Field → A). answer (map-DbType DbType Field A A (by_answers A answer) h (out-DbType t)))
      (λ i field. fold_out-Field A A answer (λ level. level.kind) field i)

  para_field :
      (answer : DbType-F (DbType × A) (Field × A) → A) (field : Field) →
      para-Field A A answer (λ level. level.kind.1) field ≡ by_parts A answer field.kind
  para_field answer field =
      ap (λ (f : Field). para-Field A A answer (λ level. level.kind.1) f) (sym (roll-out-Field field))
      ∙ para-roll-Field A A answer (λ level. level.kind.1) (out-Field field)

  pub by_parts-out :
      (answer : DbType-F (DbType × A) (Field × A) → A) (t : DbType) →
      by_parts A answer t
      ≡ answer
      (map-DbType DbType Field (DbType × A) (Field × A) (λ part. (part, by_parts A answer part))
      (λ field. (field, by_parts A answer field.kind)) (out-DbType t))
  by_parts-out answer t =
      ap (λ (x : DbType). by_parts A answer x) (sym (roll-out-DbType t))
      ∙ para-roll-DbType A A answer (λ level. level.kind.1) (out-DbType t)
      ∙ ap
      (λ (h : Field → A). answer (map-DbType DbType Field (DbType × A) (Field × A)
      (λ part. (part, by_parts A answer part)) (λ field. (field, h field)) (out-DbType t)))
      (λ i field. para_field answer field i)

-- What holds of a type where it holds of the types that stand in it holds of every type.
pub type_induction :
    (P : DbType → Type 0) →
    ((level : DbType-F ((t : DbType) × P t) ((field : Field) × P field.kind)) →
    P (roll-DbType (map-DbType ((t : DbType) × P t) ((field : Field) × P field.kind) DbType Field (λ held. held.0)
    (λ held. held.0) level))) →
    (t : DbType) → P t
type_induction P step t =
    ind-DbType P (λ field. P field.kind)
    (λ level held e. subst (λ (x : DbType-F DbType Field). P (roll-DbType x)) e (step held))
    (λ level held e. subst (λ (x : Field-F DbType Field). P x.kind) e held.kind.1)
    t
