-- The right sides of fields agree: as it is written, fields behind the first are a repetition, and in the
-- left-factored form they are fields again.
use Rattle.std.specs.Prelude.{map}
use Rattle.std.proofs.Common.{◌≡◌, List, [], ◌∷◌, ◌++◌, ◌⊎◌, inl, inr, refl, sym, ap, ◌∙◌, subst, append_assoc, append-nil}
use Rattle.grammar_core.specs.Forms.{Grammar, TreeOf, Call, Tree, FormOf, One, Empty, Seq, Choice, Many}
use Rattle.grammar_core.specs.Spelling.{Room, Spells, Begins}
use Rattle.grammar_core.specs.Spelling.{Spells as s}
use Rattle.grammar_core.specs.Spelling.{Begins as b}
use Rattle.grammar_core.proofs.Fronts.{one_more, begun}
use Rattle.grammar_core.proofs.Alike.{Within, Alike, within_same, within_as, within_post, within_seq, within_choice}
use Rattle.grammar_core.proofs.Alternatives.{cases}
use Rattle.murphi_ast.specs.declared.token.Token.{Token}
use Rattle.murphi_ast.specs.declared.expr.Named.{Named}
use Rattle.murphi_ast.specs.declared.expr.TypeExpr.{TypeExpr}
use Rattle.murphi_ast.specs.declared.expr.FieldDecl.{FieldDecl}
use Rattle.murphi_grammar.specs.declared.symbol.Symbol.TheVariants as t
use Rattle.murphi_grammar.specs.Names.{Name}
use Rattle.murphi_grammar.specs.Names as n
use Rattle.murphi_grammar.specs.Parts.{Part, ◌▸◌, one, form, optional}
use Rattle.murphi_grammar.specs.Parts.{many as many_of}
use Rattle.murphi_grammar.specs.Values.{Value, field}
use Rattle.murphi_grammar.specs.Grammar as w
use Rattle.murphi_grammar.specs.Factored as f
use Rattle.murphi_grammar.proofs.Agree.{by}

abbrev one_field : Part
one_field = form n.NameList ▸ one t.Colon ▸ form n.TypeForm

abbrev further : Part
further = one t.Semicolon ▸ one_field

abbrev written_tail : Part
written_tail = many_of further ▸ optional (one t.Semicolon)

abbrev factored_tail : Part
factored_tail = optional (one t.Semicolon ▸ form n.Fields)

abbrev written_value : TreeOf Token Value written_tail → List FieldDecl
written_value p = map field p.0

abbrev factored_value : TreeOf Token Value factored_tail → List FieldDecl
factored_value (inl (_, fs)) = fs
factored_value (inr _) = []

abbrev headed : (List Named × (Token × (TypeExpr × List FieldDecl))) ⊎ Unit {0} → List FieldDecl
headed (inl (xs, (_, (body, fs)))) = record { names = xs; body = body } ∷ fs
headed (inr _) = []

built : (xs : List Named) (c : Token) (body : TypeExpr) (p : TreeOf Token Value factored_tail) → f.build n.Fields (inl (xs, (c, (body, p)))) ≡ record { names = xs; body = body } ∷ factored_value p
built xs c body (inl (_, fs)) = refl
built xs c body (inr _) = refl

-- a list in six parts
six : {A : Type 0} (us vs ws ms ns cs ds es fs gs hs : List A) → us ≡ vs ++ ws → vs ≡ ms ++ ns → ms ≡ cs ++ ds → ds ≡ es ++ fs → fs ≡ gs ++ hs → us ≡ cs ++ (es ++ (gs ++ (hs ++ (ns ++ ws))))
six us vs ws ms ns cs ds es fs gs hs e1 e2 e3 e4 e5 =
    e1 ∙ ap (λ l. l ++ ws) e2 ∙ append_assoc ms ns ws ∙ ap (λ l. l ++ (ns ++ ws)) e3 ∙ append_assoc cs ds (ns ++ ws)
    ∙ ap (λ l. cs ++ (l ++ (ns ++ ws))) e4 ∙ ap (λ l. cs ++ l) (append_assoc es fs (ns ++ ws))
    ∙ ap (λ l. cs ++ (es ++ (l ++ (ns ++ ws)))) e5 ∙ ap (λ l. cs ++ (es ++ l)) (append_assoc gs hs (ns ++ ws))

module _ (R : Name → Part) (B : (name : Name) → TreeOf Token Value (R name) → Value name) where
  abbrev g : Grammar
  g = by R B

  module _ (fields : Alike g (f.rule n.Fields) (f.build n.Fields) (form n.Fields) (λ v. v)) where
    spells_tail : (r : Room) (us vs ws : List Token) (xs : List (Tree g further)) (o : Tree g (optional (one t.Semicolon))) → Spells g r (Many further) vs xs → Spells g r (optional (one t.Semicolon)) ws o → us ≡ vs ++ ws → (p : Tree g factored_tail) × Spells g r factored_tail us p × (map field xs ≡ factored_value p)
    spells_tail r us vs ws [] (inl c) s.none (s.left p) e =
        let m = fields.there.spells r [] (inr tt) (s.right s.empty) in (inl (c, m.0), s.left (s.seq p m.1 (e ∙ sym (append-nil ws))), m.2)
    spells_tail r us vs ws [] (inr tt) s.none (s.right s.empty) e = (inr tt, subst (λ l. Spells g r factored_tail l (inr tt)) (sym e) (s.right s.empty), refl)
    spells_tail r us vs ws ((c, (ns, (col, body))) ∷ xs) o (s.more {vs = ms} {ws = bs} (s.seq {vs = cs} {ws = ds} pc (s.seq {vs = es} {ws = fs} pn (s.seq {vs = gs} {ws = hs} pcol pt h3) h2) h1) q h) po e =
        let m = spells_tail r (bs ++ ws) bs ws xs o q po refl in
        let k = fields.there.spells r (es ++ (gs ++ (hs ++ (bs ++ ws)))) (inl (ns, (col, (body, m.0)))) (s.left (s.seq pn (s.seq pcol (s.seq pt m.1 refl) refl) refl)) in
        (inl (c, k.0), s.left (s.seq pc k.1 (six us vs ws ms bs cs ds es fs gs hs e h h1 h2 h3)), ap (λ l. record { names = ns; body = body } ∷ l) m.2 ∙ sym (built ns col body m.0) ∙ k.2)

    -- what begins one field begins fields
    grown : (r : Room) (us : List Token) → Begins g r one_field us → Begins g r (f.rule n.Fields) us
    grown r us b.nothing = b.nothing
    grown r us (b.first p) = b.left (b.first p)
    grown r us (b.second p b.nothing e) = b.left (b.second p b.nothing e)
    grown r us (b.second p (b.first q) e) = b.left (b.second p (b.first q) e)
    grown r us (b.second p (b.second q z e2) e) = b.left (b.second p (b.second q (b.first z) e2) e)

    begins_further : (r : Room) (us : List Token) → Begins g r further us → Begins g r factored_tail us
    begins_further r us b.nothing = b.nothing
    begins_further r us (b.first p) = b.left (b.first p)
    begins_further r us (b.second p q e) = b.left (b.second p (fields.there.begins r _ (grown r _ q)) e)

    begins_last : (r : Room) (us : List Token) → Begins g r (optional (one t.Semicolon)) us → Begins g r factored_tail us
    begins_last r us b.nothing = b.nothing
    begins_last r us (b.left p) = b.left (b.first p)
    begins_last r us (b.right b.nothing) = b.nothing

    begins_tail : (r : Room) (us vs ws : List Token) (xs : List (Tree g further)) → Spells g r (Many further) vs xs → Begins g r factored_tail ws → us ≡ vs ++ ws → Begins g r factored_tail us
    begins_tail r us vs ws [] s.none p e = subst (λ l. Begins g r factored_tail l) (sym e) p
    begins_tail r us vs ws (x ∷ xs) (s.more {vs = ms} {ws = bs} (s.seq {vs = cs} {ws = ds} pc (s.seq {vs = es} {ws = fs} pn (s.seq {vs = gs} {ws = hs} pcol pt h3) h2) h1) q h) p e =
        b.left (b.second pc (fields.there.begins r (es ++ (gs ++ (hs ++ (bs ++ ws)))) (b.left (b.second pn (b.second pcol (b.second pt (begins_tail r (bs ++ ws) bs ws xs q p refl) refl) refl) refl))) (six us vs ws ms bs cs ds es fs gs hs e h h1 h2 h3))

    tails : Within g written_tail written_value factored_tail factored_value
    tails = record { spells = λ r us p z. go r us p z; begins = λ r us z. come r us z }
      where
        go : (r : Room) (us : List Token) (p : Tree g written_tail) → Spells g r written_tail us p → (q : Tree g factored_tail) × Spells g r factored_tail us q × (written_value p ≡ factored_value q)
        go r us (xs, o) (s.seq {vs = vs} {ws = ws} p q e) = spells_tail r us vs ws xs o p q e

        come : (r : Room) (us : List Token) → Begins g r written_tail us → Begins g r factored_tail us
        come r us b.nothing = b.nothing
        come r us (b.first b.nothing) = b.nothing
        come r us (b.first (b.some {vs = vs} {ws = ws} {xs = xs} p q e)) = begins_tail r us vs ws xs p (begins_further r ws q) e
        come r us (b.second {vs = vs} {ws = ws} {x = xs} p q e) = begins_tail r us vs ws xs p (begins_last r ws q) e

    pub fields_there : Within g (w.rule n.Fields) (w.build n.Fields) (f.rule n.Fields) (f.build n.Fields)
    fields_there = within_as (cases _ _ (λ x. refl) (λ x. refl)) (cases _ _ (λ x. built x.0 x.1.0 x.1.1.0 x.1.1.1) (λ x. refl))
        (within_post headed (within_choice (within_seq (within_same g (form n.NameList) (λ v. v)) (within_seq (within_same g (one t.Colon) (λ v. v)) (within_seq (within_same g (form n.TypeForm) (λ v. v)) tails))) (within_same g Empty (λ v. v))))

  module _ (fields : Alike g (w.rule n.Fields) (w.build n.Fields) (form n.Fields) (λ v. v)) where
    -- what was read of fields behind a semicolon is further fields
    unread : (r : Room) (us cs ws : List Token) (c : Token) (fs : List FieldDecl) (p : Tree g (w.rule n.Fields)) → Spells g r (one t.Semicolon) cs c → Spells g r (w.rule n.Fields) ws p → fs ≡ w.build n.Fields p → us ≡ cs ++ ws → (q : Tree g written_tail) × Spells g r written_tail us q × (fs ≡ written_value q)
    unread r us cs ws c fs (inr tt) pc (s.right s.empty) k e = (([], inl c), s.seq s.none (s.left pc) (e ∙ append-nil cs), k)
    unread r us cs ws c fs (inl (ns, (col, (body, (xs, o))))) pc (s.left (s.seq {vs = es} {ws = ds} pn (s.seq {vs = gs} {ws = hs} pcol (s.seq {vs = ts} {ws = ls} pt (s.seq {vs = ms} {ws = os} pm po h4) h3) h2) h1)) k e = (
      ((c, (ns, (col, body))) ∷ xs, o),
      s.seq (s.more (s.seq pc (s.seq pn (s.seq pcol pt refl) refl) refl) pm refl) po
          (e ∙ ap (λ l. cs ++ l) (h1 ∙ ap (λ l. es ++ l) (h2 ∙ ap (λ l. gs ++ l) (h3 ∙ ap (λ l. ts ++ l) h4))) ∙ back cs es gs ts ms os),
      k,
    )
      where
        back : (a c d e f h : List Token) → a ++ (c ++ (d ++ (e ++ (f ++ h)))) ≡ ((a ++ (c ++ (d ++ e))) ++ f) ++ h
        back a c d e f h = sym (six (((a ++ (c ++ (d ++ e))) ++ f) ++ h) ((a ++ (c ++ (d ++ e))) ++ f) h (a ++ (c ++ (d ++ e))) f a (c ++ (d ++ e)) c (d ++ e) d e refl refl refl refl refl)

    -- fields begun: one field is begun, or is whole and the rest is begun
    split : (r : Room) (ws : List Token) → Begins g r (form n.NameList ▸ one t.Colon ▸ form n.TypeForm ▸ written_tail) ws → Begins g r one_field ws ⊎ ((ks bs : List Token) × (x : Tree g one_field) × Spells g r one_field ks x × Begins g r written_tail bs × (ws ≡ ks ++ bs))
    split r ws b.nothing = inl b.nothing
    split r ws (b.first p) = inl (b.first p)
    split r ws (b.second p b.nothing e) = inl (b.second p b.nothing e)
    split r ws (b.second p (b.first q) e) = inl (b.second p (b.first q) e)
    split r ws (b.second p (b.second q b.nothing e2) e) = inl (b.second p (b.second q b.nothing e2) e)
    split r ws (b.second p (b.second q (b.first z) e2) e) = inl (b.second p (b.second q z e2) e)
    split r ws (b.second {vs = es} {x = ns} p (b.second {vs = gs} {x = col} q (b.second {vs = ts} {ws = bs} {x = body} z tail e3) e2) e) =
        inr (
          es ++ (gs ++ ts),
          bs,
          (ns, (col, body)),
          s.seq p (s.seq q z refl) refl,
          tail,
          e ∙ ap (λ l. es ++ l) (e2 ∙ ap (λ l. gs ++ l) e3 ∙ sym (append_assoc gs ts bs)) ∙ sym (append_assoc es (gs ++ ts) bs),
        )

    -- one more field before a tail that is begun
    ahead : (r : Room) (us ms bs : List Token) (x : Tree g further) → Spells g r further ms x → Begins g r written_tail bs → us ≡ ms ++ bs → Begins g r written_tail us
    ahead r us ms bs x p b.nothing e = b.first (one_more p b.nothing e)
    ahead r us ms bs x p (b.first q) e = b.first (one_more p q e)
    ahead r us ms bs x p (b.second {vs = vs} {ws = ws} q z h) e = b.second (s.more p q refl) z (e ∙ ap (λ l. ms ++ l) h ∙ sym (append_assoc ms vs ws))

    begun_behind : (r : Room) (us cs ws : List Token) (c : Token) → Spells g r (one t.Semicolon) cs c → Begins g r (w.rule n.Fields) ws → us ≡ cs ++ ws → Begins g r written_tail us
    begun_behind r us cs ws c pc b.nothing e = b.first (b.some s.none (b.second pc b.nothing e) refl)
    begun_behind r us cs ws c pc (b.right b.nothing) e = b.first (b.some s.none (b.second pc b.nothing e) refl)
    begun_behind r us cs ws c pc (b.left z) e = go (split r ws z)
      where
        go : Begins g r one_field ws ⊎ ((ks bs : List Token) × (x : Tree g one_field) × Spells g r one_field ks x × Begins g r written_tail bs × (ws ≡ ks ++ bs)) → Begins g r written_tail us
        go (inl q) = b.first (b.some s.none (b.second pc q e) refl)
        go (inr (ks, bs, x, p, q, h)) = ahead r us (cs ++ ks) bs (c, x) (s.seq pc p refl) q (e ∙ ap (λ l. cs ++ l) h ∙ sym (append_assoc cs ks bs))

    tails_back : Within g factored_tail factored_value written_tail written_value
    tails_back = record { spells = λ r us p z. go r us p z; begins = λ r us z. come r us z }
      where
        go : (r : Room) (us : List Token) (p : Tree g factored_tail) → Spells g r factored_tail us p → (q : Tree g written_tail) × Spells g r written_tail us q × (factored_value p ≡ written_value q)
        go r us (inr tt) (s.right s.empty) = (([], inr tt), s.seq s.none (s.right s.empty) refl, refl)
        go r us (inl (c, fs)) (s.left (s.seq {vs = cs} {ws = ws} pc pf e)) = let m = fields.back.spells r ws fs pf in unread r us cs ws c fs m.0 pc m.1 m.2 e

        come : (r : Room) (us : List Token) → Begins g r factored_tail us → Begins g r written_tail us
        come r us b.nothing = b.nothing
        come r us (b.left b.nothing) = b.nothing
        come r us (b.left (b.first p)) = b.second s.none (b.left p) refl
        come r us (b.left (b.second {vs = cs} {ws = ws} {x = c} pc q e)) = begun_behind r us cs ws c pc (fields.back.begins r ws q) e
        come r us (b.right b.nothing) = b.nothing

    pub fields_back : Within g (f.rule n.Fields) (f.build n.Fields) (w.rule n.Fields) (w.build n.Fields)
    fields_back = within_as (cases _ _ (λ x. built x.0 x.1.0 x.1.1.0 x.1.1.1) (λ x. refl)) (cases _ _ (λ x. refl) (λ x. refl))
        (within_post headed (within_choice (within_seq (within_same g (form n.NameList) (λ v. v)) (within_seq (within_same g (one t.Colon) (λ v. v)) (within_seq (within_same g (form n.TypeForm) (λ v. v)) tails_back))) (within_same g Empty (λ v. v))))
