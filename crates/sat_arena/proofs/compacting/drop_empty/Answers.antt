use Rattle.std.proofs.Common.{rules}
use Rattle.std.proofs.lemmas.List.Elements.{filter_from_retain}
use Rattle.sat_arena.specs.Linking.{holds_clause}
use Rattle.sat_arena.proofs.compacting.drop_empty.Goals as goal

pub returns : goal.returns
returns c = filter_from_retain _ holds_clause (λ p x b q h. search rules) _ c.args.slots.now.items c.retain.new.self.items c.retain.ensures.filtered
