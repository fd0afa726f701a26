use Rattle.std.proofs.Common.{◌≡◌, ◌∙◌, ap, sym, Some}
use Rattle.murphi_typed.specs.declared.types.AnyType as t
use Rattle.murphi_types.specs.Faults.{first_fault}
use Rattle.murphi_types.specs.Designators.{Chosen, field_or, field_chosen}
use Rattle.type_parts.specs.TypeLists.{list_field}
use Rattle.type_forms.proofs.DesignatorEquations.{field-Record}
use Rattle.type_forms.proofs.designators.field_of.Goals as goal

pub returns-in-Record-clause-of : goal.returns-in-Record-clause-of
returns-in-Record-clause-of c =
    let is : c.args.of.now ≡ t.Record c.as_slice.result.now = c.in-Record.is ∙ ap t.Record (sym c.as_slice.ensures) in
    c.field_among.ensures.of ∙ ap (λ (x : Chosen). x.type) (sym (ap (λ a. field_chosen c.args.at c.args.name.now (Some a)) is ∙ field-Record c.args.at c.args.name.now c.as_slice.result.now))

pub returns-in-Record-clause-fault : goal.returns-in-Record-clause-fault
returns-in-Record-clause-fault c =
    let is : c.args.of.now ≡ t.Record c.as_slice.result.now = c.in-Record.is ∙ ap t.Record (sym c.as_slice.ensures) in
    c.field_among.ensures.fault ∙ ap (λ (x : Chosen). first_fault x.faults) (sym (ap (λ a. field_chosen c.args.at c.args.name.now (Some a)) is ∙ field-Record c.args.at c.args.name.now c.as_slice.result.now))
