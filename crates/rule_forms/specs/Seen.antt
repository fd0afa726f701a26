-- What contracts see of the values that the code works with: the same, in the words of the translation.
use Rattle.std.specs.Prelude.{ℕ, List, map}
use Rattle.murphi_typed.specs.declared.protocol.Routine.{Routine}
use Rattle.rule_inline.specs.Tables.{Terms, Change}
use Rattle.rule_inline.specs.Parts.{Site, Valued, Placed, Indexed, Argued, Done, Calls}
use Rattle.rule_inline.specs.Bodies.{routine_calls}
use Rattle.rule_inline.specs.Machine.{CellsOf}
use Rattle.rule_terms.specs.Gathered.{seen_demands}
use Rattle.rule_parts.specs.declared.family.Family.{Family as HeldFamily}
use Rattle.rule_parts.specs.declared.layer.Layer.{Layer}
use Rattle.rule_parts.specs.Seen.{seen_spot, seen_index, seen_family}
use Rattle.rule_parts.specs.Layers.{seen_layer, givens}
use Rattle.rule_forms.specs.Words.{Instances, Chain, Worked}
use Rattle.rule_forms.specs.declared.branch.Chain.{Chain as HeldChain}
use Rattle.rule_forms.specs.declared.branch.Worked.{Worked as HeldWorked}
use Rattle.rule_forms.specs.declared.operator.Instances.{Instances as HeldInstances}
use Rattle.rule_forms.specs.declared.site.Site.{Site as HeldSite}
use Rattle.rule_forms.specs.declared.site.Valued.{Valued as HeldValued}
use Rattle.rule_forms.specs.declared.site.Placed.{Placed as HeldPlaced}
use Rattle.rule_forms.specs.declared.site.Indexed.{Indexed as HeldIndexed}
use Rattle.rule_forms.specs.declared.site.Argued.{Argued as HeldArgued}
use Rattle.rule_forms.specs.declared.site.Done.{Done as HeldDone}

-- the families of a site, and what its routines do
abbrev pub families_in : HeldSite → List CellsOf
families_in site = map seen_family site.families.now

abbrev pub calls_in_site : HeldSite → Calls
calls_in_site site = routine_calls site.routines.now

abbrev pub seen_site : HeldSite → Site
seen_site site =
    record {
      frame = site.frame;
      depth = site.depth;
      result = site.result;
      bound = site.bound;
      formals = givens (families_in site) site.formals;
    }

-- the terms that a layer leaves
abbrev pub terms_in : HeldSite → Layer → Terms
terms_in site layer = (seen_layer layer (families_in site)).now

abbrev pub seen_valued : HeldValued → Valued
seen_valued e = record { term = e.term; demands = seen_demands e.demands }

abbrev pub seen_placed : HeldPlaced → Placed
seen_placed p = record { spot = seen_spot p.spot; demands = seen_demands p.demands }

abbrev pub seen_indexed : HeldIndexed → Indexed
seen_indexed i = record { indices = map seen_index i.indices; demands = seen_demands i.demands }

abbrev pub seen_argued : HeldSite → HeldArgued → Argued
seen_argued site a = record { given = givens (families_in site) a.given; demands = seen_demands a.demands }

abbrev pub seen_instances : HeldInstances → Instances
seen_instances i = record { terms = i.terms; demands = seen_demands i.demands }

abbrev pub seen_done : HeldSite → HeldDone → Done
seen_done site d = record { change = seen_layer d.change.value (families_in site); demands = seen_demands d.demands }

abbrev pub seen_chain : HeldSite → HeldChain → Chain
seen_chain site c = record { change = seen_layer c.change.value (families_in site); demands = seen_demands c.demands }

abbrev pub seen_worked : HeldSite → HeldWorked → Worked
seen_worked site w = record { test = seen_valued w.test; body = seen_done site w.body }
