use Rattle.type_forms.proofs.EnumLemmas.{few-type, few-known, many-type, many-known}
use Rattle.std.proofs.Common.{◌∙◌, length, refl}
use Rattle.type_forms.proofs.written.enum_made.Goals as goal

pub returns-in_ok-declare_enum-in-Some-clause-part : goal.returns-in_ok-declare_enum-in-Some-clause-part
returns-in_ok-declare_enum-in-Some-clause-part c =
    few-type c.args.at c.args.names.now c.args.known.now c.in_ok-kind.kind c.in-Some.count (length c.args.names.now) (c.in_ok-kind.ensures ∙ c.len-kinds.ensures) refl c.in-Some.ensures

pub returns-in_ok-declare_enum-in-Some-clause-known : goal.returns-in_ok-declare_enum-in-Some-clause-known
returns-in_ok-declare_enum-in-Some-clause-known c =
    few-known c.args.at c.args.names.now c.args.known.now c.declare_enum.new.known c.in_ok-kind.kind c.in-Some.count (length c.args.names.now) (c.in_ok-kind.ensures ∙ c.len-kinds.ensures) refl c.in-Some.ensures c.in_ok-declare_enum-in-Some.ensures

pub returns-in_ok-declare_enum-in-None-clause-part : goal.returns-in_ok-declare_enum-in-None-clause-part
returns-in_ok-declare_enum-in-None-clause-part c =
    many-type c.args.at c.args.names.now c.args.known.now (length c.args.names.now) c.too_many.result refl c.in-None.ensures c.too_many.ensures

pub returns-in_ok-declare_enum-in-None-clause-known : goal.returns-in_ok-declare_enum-in-None-clause-known
returns-in_ok-declare_enum-in-None-clause-known c =
    many-known c.args.at c.args.names.now c.args.known.now c.declare_enum-in-None.new.known c.in_ok-kind.kind (length c.args.names.now) (c.in_ok-kind.ensures ∙ c.len-kinds.ensures) refl c.in-None.ensures c.in_ok-declare_enum-in-None.ensures
