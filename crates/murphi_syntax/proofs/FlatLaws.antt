-- What is answered of a tree, of tokens and of bytes.
use Rattle.std.proofs.Common.{◌≡◌, ℕ, zero, suc, ◌≤◌, ◌<◌, Bool, true, false, ◌&&◌, List, [], ◌∷◌, length, eq-eqb, eqb-true, Option, Some, None, refl, sym, ap, ◌∙◌, subst, arith}
use Rattle.std.specs.Prelude.{nat_eq, map, slice_get, slice_index_or, option_map, count_by, Result, Ok, Err, IfOk, IfErr, MatchResult}
use Rattle.std.specs.List.{list_all}
use Rattle.murphi_ast.specs.declared.token.Span.{Span}
use Rattle.murphi_ast.specs.declared.token.Token.{Token}
use Rattle.murphi_ast.specs.declared.expr.Named.{Named}
use Rattle.murphi_ast.specs.declared.rule.Protocol.{Protocol}
use Rattle.murphi_ast.specs.State.{variables}
use Rattle.murphi_ast.specs.Title.{StartKind, is_of}
use Rattle.murphi_ast.specs.Grammar.{SpellsProtocol}
use Rattle.murphi_ast.specs.declared.token.Fault.{Fault}
use Rattle.murphi_ast.specs.Bytes.{start}
use Rattle.murphi_ast.specs.Spelling.{Reads}
use Rattle.murphi_ast.specs.Flat.{all_distinct, item_knows, IsFlat, first_other_word, FirstOtherWord, greatest_variables, variable_places, SpellsFlat, IsBuilt, IsUnbuilt, other_word, ninth_name, IsNotFlat}
use Rattle.murphi_lex.specs.Places.{IsPlace, StandsAt, fault_place}
use Rattle.murphi_syntax.specs.Protocols.{IsProtocol}
use Rattle.murphi_syntax.specs.Scope.{named_in, names_of}
use Rattle.murphi_syntax.specs.Stop.{is_flat, ninth, Judged, SaysOf, IsStop, IsPlaced, IsNamed, of_token, at_start, IsNamedBy, TellsUnbuilt, TellsNotFlat, FlatSays, wants_memory, has_word, has_fault, says}
use Rattle.murphi_syntax.specs.declared.protocol.FlatStop.{FlatStop}
use Rattle.murphi_syntax.specs.declared.protocol.FlatStop.TheVariants.{NotBuilt, NotFlat, Memory}
use Rattle.murphi_syntax.proofs.ScopeLemmas.{names_are, places_are}
use Rattle.murphi_syntax.proofs.DeclSound.{protocol_sound}
use Rattle.murphi_syntax.proofs.DeclComplete.{protocol_complete, one_protocol}
use Rattle.murphi_syntax.proofs.Clean.{protocol_clean}
use Rattle.std.proofs.lemmas.Option.{slice_get_within, slice_get_read}

-- the two parts of a test
and_both : (a b : Bool) → (a && b) ≡ true → (a ≡ true) × (b ≡ true)
and_both true b h = (refl, h)
and_both false b h = cc

flat_if : (p : Protocol) → is_flat (named_in p.decls) p.rules ≡ true → IsFlat p
flat_if p h =
    let one = and_both (nat_eq (count_by (is_of StartKind) p.rules) 1) (all_distinct (names_of (named_in p.decls)) && list_all (item_knows (names_of (named_in p.decls))) p.rules) h in
    let two = and_both (all_distinct (names_of (named_in p.decls))) (list_all (item_knows (names_of (named_in p.decls))) p.rules) one.1 in
    record {
      one_start = eqb-true (count_by (is_of StartKind) p.rules) 1 one.0;
      declared_once = subst (λ vs. all_distinct vs ≡ true) (names_are p) two.0;
      declared = subst (λ vs. list_all (item_knows vs) p.rules ≡ true) (names_are p) two.1;
    }

flat_only : (p : Protocol) → IsFlat p → is_flat (named_in p.decls) p.rules ≡ true
flat_only p h =
    subst (λ vs. (nat_eq (count_by (is_of StartKind) p.rules) 1 && (all_distinct vs && list_all (item_knows vs) p.rules)) ≡ true) (sym (names_are p))
    (subst (λ b. (b && (all_distinct (variables p) && list_all (item_knows (variables p)) p.rules)) ≡ true) (sym (eq-eqb (count_by (is_of StartKind) p.rules) 1 h.one_start))
    (subst (λ b. (b && list_all (item_knows (variables p)) p.rules) ≡ true) (sym h.declared_once) h.declared))

slice_get-map : {A B : Type 0} (f : A → B) (xs : List A) (k : ℕ) → slice_get (map f xs) k ≡ option_map f (slice_get xs k)
slice_get-map f [] k = refl
slice_get-map f (x ∷ xs) zero = refl
slice_get-map f (x ∷ xs) (suc k) = slice_get-map f xs k

length-map' : {A B : Type 0} (f : A → B) (xs : List A) → length (map f xs) ≡ length xs
length-map' f [] = refl
length-map' f (x ∷ xs) = ap suc (length-map' f xs)

ninth_is : (p : Protocol) → ninth (named_in p.decls) ≡ slice_get (variable_places p) greatest_variables
ninth_is p = sym (slice_get-map (λ (n : Named). n.at) (named_in p.decls) greatest_variables) ∙ ap (λ xs. slice_get xs greatest_variables) (places_are p)

-- where there is no element at a place, the list is no longer
past : {A : Type 0} (xs : List A) (k : ℕ) → slice_get xs k ≡ None → length xs ≤ k
past [] k h = omega arith
past (x ∷ xs) zero h = cc
past (x ∷ xs) (suc k) h = let e : length xs ≤ k = past xs k h in omega arith

no_ninth : {A B : Type 0} (f : A → B) (o : Option A) → None ≡ option_map f o → o ≡ None
no_ninth f None h = refl
no_ninth f (Some x) h = cc

pub judged_ok : (p : Protocol) (ns : List Named) → ns ≡ named_in p.decls → is_flat ns p.rules ≡ true → None ≡ ninth ns → Judged p (Ok p)
unfolding Judged
judged_ok p ns are flat none =
    let flat' : is_flat (named_in p.decls) p.rules ≡ true = subst (λ ns. is_flat ns p.rules ≡ true) are flat in
    let none' : None ≡ ninth (named_in p.decls) = subst (λ ns. None ≡ ninth ns) are none in
    let few : length (named_in p.decls) ≤ greatest_variables = past (named_in p.decls) greatest_variables (no_ninth (λ (n : Named). n.at) (slice_get (named_in p.decls) greatest_variables) none') in
    let same : length (variables p) ≡ length (named_in p.decls) = ap length (sym (names_are p)) ∙ length-map' (λ (n : Named). n.name) (named_in p.decls) in
    (refl, flat_if p flat', omega arith)

pub judged_ninth : (p : Protocol) (ns : List Named) (at : Span) → ns ≡ named_in p.decls → is_flat ns p.rules ≡ true → Some at ≡ ninth ns → Judged p (Err (NotBuilt at))
unfolding Judged
judged_ninth p ns at are flat some =
    (flat_if p (subst (λ ns. is_flat ns p.rules ≡ true) are flat), sym (subst (λ ns. Some at ≡ ninth ns) are some ∙ ninth_is p))

pub judged_not : (p : Protocol) (ns : List Named) (at : Span) → ns ≡ named_in p.decls → is_flat ns p.rules ≡ false → Judged p (Err (NotFlat at))
unfolding Judged
judged_not p ns at are flat = λ h.
    let no : is_flat (named_in p.decls) p.rules ≡ false = subst (λ ns. is_flat ns p.rules ≡ false) are flat in
    let yes' = flat_only p h in cc

pub judged_memory : (p : Protocol) → Judged p (Err Memory)
unfolding Judged
judged_memory p = tt

pub ruleset judging = (judged_ok, judged_ninth, judged_not, judged_memory)

-- tokens

-- tokens spell one tree
pub one_tree : {tokens : List Token} {p q : Protocol} → SpellsProtocol tokens p → SpellsProtocol tokens q → p ≡ q
one_tree {tokens} {p} {q} h g =
    let same : Some p ≡ Some q = one_protocol tokens (Some p) (Some q) (protocol_complete h) (protocol_complete g) in cc

-- what is read as a tree is spelled so
spelled_tree : (tokens : List Token) (p : Protocol) → IsProtocol tokens (Some p) → SpellsProtocol tokens p
unfolding IsProtocol
spelled_tree tokens p (n, h) = protocol_sound n tokens p (h n (omega arith))

pub says_no_tree : (tokens : List Token) (at : Span) → IsProtocol tokens None → SaysOf tokens (Err (NotFlat at))
unfolding SaysOf
says_no_tree tokens at h = λ p spells flat.
    let same : None ≡ Some p = one_protocol tokens None (Some p) h (protocol_complete spells) in cc

pub says_judged : (tokens : List Token) (p : Protocol) (r : Result Protocol FlatStop) → IsProtocol tokens (Some p) → Judged p r → SaysOf tokens r
unfolding SaysOf Judged
says_judged tokens p (Ok q) h (same, flat, few) =
    subst (λ q. SaysOf tokens (Ok q)) (sym same) (spelled_tree tokens p h, flat, few)
says_judged tokens p (Err (NotBuilt at)) h (flat, ninth) = (p, spelled_tree tokens p h, flat, ninth)
says_judged tokens p (Err (NotFlat at)) h not = λ q spells flat. not (subst IsFlat (one_tree spells (spelled_tree tokens p h)) flat)
says_judged tokens p (Err Memory) h j = tt

pub says_of_memory : (tokens : List Token) → SaysOf tokens (Err Memory)
unfolding SaysOf
says_of_memory tokens = tt

pub ruleset saying = (says_no_tree, says_judged, says_of_memory)

-- bytes

-- a text has one reading
abbrev OneReading : Type 0
OneReading = (bytes : List ℕ) (ts us : List Token) (e f : Option Fault) → Reads start bytes ts e → Reads start bytes us f → (ts ≡ us) × (e ≡ f)

-- what is answered of tokens holds of bytes that are read as them
built_by : (bytes : List ℕ) (tokens : List Token) (r : Result Protocol FlatStop) → Reads start bytes tokens None → SaysOf tokens r → IfOk r (λ p. IsBuilt bytes p)
unfolding SaysOf
built_by bytes tokens (Ok p) reads (spells, flat, few) = record { spelled = record { tokens = tokens; lexed = reads; parsed = spells; flat = flat }; few = few }
built_by bytes tokens (Err stop) reads s = tt

pub spelled_by : (bytes : List ℕ) (r : Result Protocol FlatStop) → FlatSays bytes r → IfOk r (λ p. IsBuilt bytes p)
spelled_by bytes r wants_memory = tt
spelled_by bytes r (has_word tokens fault at reads word) = tt
spelled_by bytes r (has_fault tokens fault at reads clean) = tt
spelled_by bytes r (says tokens _ reads clean s) = built_by bytes tokens r reads s

-- a protocol that the bytes spell is one that their tokens spell
spelled_here : OneReading → (bytes : List ℕ) (tokens : List Token) (fault : Option Fault) (p : Protocol) → Reads start bytes tokens fault → SpellsFlat bytes p → SpellsProtocol tokens p × (fault ≡ None)
spelled_here one bytes tokens fault p reads h =
    let same = one bytes tokens h.tokens fault None reads h.lexed in
    (subst (λ ts. SpellsProtocol ts p) (sym same.0) h.parsed, same.1)

stop_by : OneReading → (bytes : List ℕ) (tokens : List Token) (r : Result Protocol FlatStop) → Reads start bytes tokens None → first_other_word tokens ≡ None → SaysOf tokens r → IfErr r (λ e. IsStop bytes e)
unfolding SaysOf
stop_by one bytes tokens (Ok p) reads clean s = tt
stop_by one bytes tokens (Err (NotBuilt at)) reads clean (p, spells, flat, place) =
    ninth_name p (record { tokens = tokens; fault = None; reads = reads; first = clean }) (record { tokens = tokens; lexed = reads; parsed = spells; flat = flat }) place
stop_by one bytes tokens (Err (NotFlat at)) reads clean not = record {
  no_word = record { tokens = tokens; fault = None; reads = reads; first = clean };
  unspelled = λ p h. not p (spelled_here one bytes tokens None p reads h).0 h.flat;
}
stop_by one bytes tokens (Err Memory) reads clean s = tt

pub stopped_by : OneReading → (bytes : List ℕ) (r : Result Protocol FlatStop) → FlatSays bytes r → IfErr r (λ e. IsStop bytes e)
stopped_by one bytes r wants_memory = tt
stopped_by one bytes r (has_word tokens fault at reads word) = other_word (record { tokens = tokens; fault = fault; reads = reads; first = word })
stopped_by one bytes r (has_fault tokens fault at reads clean) = record {
  no_word = record { tokens = tokens; fault = Some fault; reads = reads; first = clean };
  unspelled = λ p h. let none = (spelled_here one bytes tokens (Some fault) p reads h).1 in cc;
}
stopped_by one bytes r (says tokens _ reads clean s) = stop_by one bytes tokens r reads clean s

-- the ninth place is past at most eight variables
few_places : (p : Protocol) (at : Span) → length (variables p) ≤ greatest_variables → slice_get (variable_places p) greatest_variables ≡ Some at → ⊥
few_places p at few place =
    let within = slice_get_within (variable_places p) greatest_variables at place in
    let same : length (variable_places p) ≡ length (variables p) =
    ap length (sym (places_are p)) ∙ length-map' (λ (n : Named). n.at) (named_in p.decls) ∙ sym (length-map' (λ (n : Named). n.name) (named_in p.decls)) ∙ ap length (names_are p) in
    absurd (omega arith)

only_here : (tokens : List Token) (r : Result Protocol FlatStop) (p : Protocol) → SaysOf tokens r → SpellsProtocol tokens p → IsFlat p → length (variables p) ≤ greatest_variables → MatchResult r (λ q. q ≡ p) (λ e. e ≡ Memory)
unfolding SaysOf
only_here tokens (Ok q) p (spells', flat', few') spells flat few = one_tree spells' spells
only_here tokens (Err (NotBuilt at)) p (q, spells', flat', place) spells flat few =
    absurd (few_places p at few (subst (λ q. slice_get (variable_places q) greatest_variables ≡ Some at) (one_tree spells' spells) place))
only_here tokens (Err (NotFlat at)) p not spells flat few = absurd (not p spells flat)
only_here tokens (Err Memory) p s spells flat few = refl

pub only_by : OneReading → (bytes : List ℕ) (r : Result Protocol FlatStop) → FlatSays bytes r → (p : Protocol) → IsBuilt bytes p → MatchResult r (λ q. q ≡ p) (λ e. e ≡ Memory)
only_by one bytes r wants_memory p h = refl
only_by one bytes r (has_word tokens fault at reads word) p h =
    let clean : first_other_word tokens ≡ None = protocol_clean (spelled_here one bytes tokens fault p reads h.spelled).0 in absurd cc
only_by one bytes r (has_fault tokens fault at reads clean) p h =
    let none = (spelled_here one bytes tokens (Some fault) p reads h.spelled).1 in absurd cc
only_by one bytes r (says tokens _ reads clean s) p h =
    only_here tokens r p s (spelled_here one bytes tokens None p reads h.spelled).0 h.spelled.flat h.few

-- the first word of a text that no flat protocol has is one
word_here : OneReading → (bytes : List ℕ) (tokens : List Token) (fault : Option Fault) (place : Option Span) → Reads start bytes tokens fault → FirstOtherWord bytes place → first_other_word tokens ≡ place
word_here one bytes tokens fault place reads w =
    ap first_other_word (one bytes tokens w.tokens fault w.fault reads w.reads).0 ∙ w.first

unbuilt_here : OneReading → (bytes : List ℕ) (tokens : List Token) (r : Result Protocol FlatStop) (p : Protocol) (at : Span) → SaysOf tokens r → SpellsProtocol tokens p → IsFlat p → slice_get (variable_places p) greatest_variables ≡ Some at → MatchResult r (λ _. ⊥) (λ e. TellsUnbuilt e at)
unfolding SaysOf
unbuilt_here one bytes tokens (Ok q) p at (spells', flat', few') spells flat place =
    few_places q at few' (subst (λ p. slice_get (variable_places p) greatest_variables ≡ Some at) (one_tree spells spells') place)
unbuilt_here one bytes tokens (Err (NotBuilt x)) p at (q, spells', flat', place') spells flat place =
    let same : Some x ≡ Some at = sym place' ∙ ap (λ q. slice_get (variable_places q) greatest_variables) (one_tree spells' spells) ∙ place in cc
unbuilt_here one bytes tokens (Err (NotFlat x)) p at not spells flat place = not p spells flat
unbuilt_here one bytes tokens (Err Memory) p at s spells flat place = tt

pub unbuilt_by : OneReading → (bytes : List ℕ) (r : Result Protocol FlatStop) → FlatSays bytes r → (at : Span) → IsUnbuilt bytes at → MatchResult r (λ _. ⊥) (λ e. TellsUnbuilt e at)
unbuilt_by one bytes r wants_memory at h = tt
unbuilt_by one bytes r (has_word tokens fault x reads word) at (other_word w) =
    let same : Some x ≡ Some at = sym word ∙ word_here one bytes tokens fault (Some at) reads w in cc
unbuilt_by one bytes r (has_word tokens fault x reads word) at (ninth_name p w spelled place) =
    let same : Some x ≡ None = sym word ∙ word_here one bytes tokens fault None reads w in absurd cc
unbuilt_by one bytes r (has_fault tokens fault x reads clean) at (other_word w) =
    let same : None ≡ Some at = sym clean ∙ word_here one bytes tokens (Some fault) (Some at) reads w in cc
unbuilt_by one bytes r (has_fault tokens fault x reads clean) at (ninth_name p w spelled place) =
    let none = (spelled_here one bytes tokens (Some fault) p reads spelled).1 in cc
unbuilt_by one bytes r (says tokens _ reads clean s) at (other_word w) =
    let same : None ≡ Some at = sym clean ∙ word_here one bytes tokens None (Some at) reads w in absurd cc
unbuilt_by one bytes r (says tokens _ reads clean s) at (ninth_name p w spelled place) =
    unbuilt_here one bytes tokens r p at s (spelled_here one bytes tokens None p reads spelled).0 spelled.flat place

not_flat_here : (bytes : List ℕ) (tokens : List Token) (r : Result Protocol FlatStop) → Reads start bytes tokens None → SaysOf tokens r → ((p : Protocol) → SpellsFlat bytes p → ⊥) → MatchResult r (λ _. ⊥) (λ e. TellsNotFlat e)
unfolding SaysOf
not_flat_here bytes tokens (Ok p) reads (spells, flat, few) not = not p (record { tokens = tokens; lexed = reads; parsed = spells; flat = flat })
not_flat_here bytes tokens (Err (NotBuilt at)) reads (p, spells, flat, place) not = not p (record { tokens = tokens; lexed = reads; parsed = spells; flat = flat })
not_flat_here bytes tokens (Err (NotFlat at)) reads s not = tt
not_flat_here bytes tokens (Err Memory) reads s not = tt

pub not_flat_by : OneReading → (bytes : List ℕ) (r : Result Protocol FlatStop) → FlatSays bytes r → IsNotFlat bytes → MatchResult r (λ _. ⊥) (λ e. TellsNotFlat e)
not_flat_by one bytes r wants_memory h = tt
not_flat_by one bytes r (has_word tokens fault x reads word) h =
    let same : Some x ≡ None = sym word ∙ word_here one bytes tokens fault None reads h.no_word in cc
not_flat_by one bytes r (has_fault tokens fault x reads clean) h = tt
not_flat_by one bytes r (says tokens _ reads clean s) h = not_flat_here bytes tokens r reads s h.unspelled

-- no bytes spell two flat protocols
pub one_flat : OneReading → (bytes : List ℕ) (p q : Protocol) → SpellsFlat bytes p → SpellsFlat bytes q → p ≡ q
one_flat one bytes p q h g = one_tree h.parsed (spelled_here one bytes h.tokens None q h.lexed g).0

pub says_fault : (bytes : List ℕ) (tokens : List Token) (fault : Option Fault) (f : Fault) (at : Span) → Reads start bytes tokens fault → fault ≡ Some f → None ≡ first_other_word tokens → FlatSays bytes (Err (NotFlat at))
says_fault bytes tokens fault f at reads is clean = has_fault tokens f at (subst (λ o. Reads start bytes tokens o) is reads) (sym clean)

pub says_tokens : (bytes : List ℕ) (tokens : List Token) (fault : Option Fault) (r : Result Protocol FlatStop) → Reads start bytes tokens fault → fault ≡ None → None ≡ first_other_word tokens → SaysOf tokens r → FlatSays bytes r
says_tokens bytes tokens fault r reads is clean s = says tokens r (subst (λ o. Reads start bytes tokens o) is reads) (sym clean) s

pub says_word : (bytes : List ℕ) (tokens : List Token) (fault : Option Fault) (at : Span) → Reads start bytes tokens fault → Some at ≡ first_other_word tokens → FlatSays bytes (Err (NotBuilt at))
says_word bytes tokens fault at reads word = has_word tokens fault at reads (sym word)

pub says_memory : (bytes : List ℕ) → FlatSays bytes (Err Memory)
says_memory bytes = wants_memory

-- places

-- the places of a text's tokens, and of its fault, are of the text
abbrev TokenPlaces : Type 0
TokenPlaces =
    (bytes : List ℕ) (tokens : List Token) (fault : Option Fault) (at : Span) → Reads start bytes tokens fault
    → StandsAt tokens at → IsPlace bytes at

abbrev FaultPlaces : Type 0
FaultPlaces =
    (bytes : List ℕ) (tokens : List Token) (fault : Fault) → Reads start bytes tokens (Some fault)
    → IsPlace bytes (fault_place fault)

pub place_of_fault : FaultPlaces → (bytes : List ℕ) (tokens : List Token) (fault : Option Fault) (f : Fault) →
    Reads start bytes tokens fault → fault ≡ Some f → IsPlace bytes (fault_place f)
place_of_fault law bytes tokens fault f reads is = law bytes tokens f (subst (λ o. Reads start bytes tokens o) is reads)

named_place : TokenPlaces → (bytes : List ℕ) (tokens : List Token) (fault : Option Fault) (at : Span) →
    Reads start bytes tokens fault → IsNamed tokens at → IsPlace bytes at
named_place law bytes tokens fault at reads (of_token _ stands) = law bytes tokens fault at reads stands
named_place law bytes tokens fault _ reads at_start = record { front = []; back = bytes; split = refl; is = refl }

pub placed_by : TokenPlaces → (bytes : List ℕ) (tokens : List Token) (fault : Option Fault)
    (r : Result Protocol FlatStop) → Reads start bytes tokens fault → IfErr r (λ e. IsNamedBy tokens e) →
    IfErr r (λ e. IsPlaced bytes e)
placed_by law bytes tokens fault (Ok p) reads h = tt
placed_by law bytes tokens fault (Err (NotBuilt at)) reads h = tt
placed_by law bytes tokens fault (Err (NotFlat at)) reads h = named_place law bytes tokens fault at reads h
placed_by law bytes tokens fault (Err Memory) reads h = tt

pub says_elsewhere : (tokens : List Token) (at place : Span) → SaysOf tokens (Err (NotFlat at)) →
    SaysOf tokens (Err (NotFlat place))
unfolding SaysOf
says_elsewhere tokens at place s = s

pub named_start : (tokens : List Token) → IsNamed tokens start
named_start tokens = at_start

pub named_item : (tokens : List Token) (k : ℕ) (token : Token) → k < length tokens →
    token ≡ slice_index_or tokens k token → IsNamed tokens token.at
named_item tokens k token low is =
    of_token token.at (record {
      number = k;
      token = token;
      there = slice_get_read tokens (length tokens) k token refl low is;
      is = refl;
    })

pub ruleset naming = (says_elsewhere, named_start, named_item)

pub ruleset flats = (says_fault, says_tokens, says_word, says_memory, place_of_fault, placed_by)
