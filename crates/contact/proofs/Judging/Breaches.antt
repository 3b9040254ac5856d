-- The search of a card finds what specs/Breaches.antt says:
--     first-breach    nothing, where nothing is broken; else the first row that breaks a line, with its smallest
-- Assumes nothing.
use Prim.Native.Nat.{ℕ, zero, suc, ◌+◌, ◌≤◌, ◌<◌}
use mathlib.Core.Path.{◌≡◌, refl, sym, ap, subst, subst₂, ◌∙◌}
use mathlib.Core.Bool.{Bool, true, false, not, cond, true≢false}
use mathlib.Core.List.{List, [], ◌∷◌, Memᴰ as In}
use mathlib.Core.Logic.{◌⊎◌, inl, inr, ⊎_elim}
use native.Mathlib.Omega.{arith}
use Rattle.laws.proofs.Decides.{Decides, holds, fails, test_true, test_false, swap, unless, lets, equal, itself}
use Rattle.text.specs.Text.{bytes}
use Rattle.text.specs.Doc.{Name, Doc, scalar, array, object, Members, empty, member, kind_of, children_of, count_of, count_all}
use Rattle.contact.specs.Schema.{ObjectType, Known, Keys, free, ids, Key, Ty, any, simple, object_of, list_of, map_of, by_type, card, properties, own_name}
use Rattle.contact.specs.Judge.{is_of, chosen, member_type, key_in, key_fits, Breach, nothing, found, on_this_row, or_else, breach_of, breach_among, card_breach}
use Rattle.contact.specs.AskedKinds.{Suits, unknown}
use Rattle.contact.specs.Breaches.{Under, key, IsOf, named, Chooses, Gives, of_object, of_list, of_map, Among, first, later, At, root, inside, UnallowedKey, no_id, BreaksLine, RowBreaks}
use Rattle.contact.specs.Breaches as B
use Rattle.contact.proofs.Judging.SimpleValues.{id_test}
use Rattle.contact.proofs.Judging.Table.{Typed, line, no_line_lem, type_in_lem, line_of}
use Rattle.contact.proofs.Judging.BetweenMembers.{string_member}
use Rattle.contact.proofs.Judging.Rows.{RowSays, clean, worst, row_says}

-- ---- values inside others, from the outermost on

-- inside a value d of a type, which stands on a row, stands a value of a type on a later row, or it is d itself
data Inside (r : ℕ) (ty' : Ty) (u' : Under) (v : Doc) : Ty → Under → (row : ℕ) → Doc → Type 0 where
  self : Inside r ty' u' v ty' u' r v
  down : {ty ty₁ : Ty} {u u₁ : Under} {row between : ℕ} {d e : Doc} {k : Key}
      → Suits ty (kind_of d) → Among [] (children_of d) between k e → Gives ty k e ty₁ u₁ → Inside r ty' u' v ty₁ u₁ (row + 1 + between) e
      → Inside r ty' u' v ty u row d

-- one step further in
deeper : {r : ℕ} {ty₁ ty₂ : Ty} {u₁ u₂ : Under} {v e : Doc} {between : ℕ} {k : Key} {ty : Ty} {u : Under} {row : ℕ} {d : Doc}
    → Inside r ty₁ u₁ v ty u row d → Suits ty₁ (kind_of v) → Among [] (children_of v) between k e → Gives ty₁ k e ty₂ u₂
    → Inside (r + 1 + between) ty₂ u₂ e ty u row d
deeper self s a g = down s a g self
deeper (down s₁ a₁ g₁ i) s a g = down s₁ a₁ g₁ (deeper i s a g)

at_inside : {whole v : Doc} {row : ℕ} {ty : Ty} {u : Under} → At whole row ty u v → Inside row ty u v (object_of card) B.unkeyed 0 whole
at_inside root = self
at_inside (inside a s b g) = deeper (at_inside a) s b g

inside_at_lem : {whole v : Doc} {r : ℕ} {ty₁ : Ty} {u₁ : Under} {ty : Ty} {u : Under} {row : ℕ} {d : Doc}
    → Inside r ty₁ u₁ v ty u row d → At whole row ty u d → At whole r ty₁ u₁ v
inside_at_lem self a = a
inside_at_lem (down s b g i) a = inside_at_lem i (inside a s b g)

-- ---- rows

count_below : (d : Doc) → count_of d ≡ suc (count_all (children_of d))
unfolding count_of count_all
count_below (scalar kind token) = refl
count_below (array ms) = refl
count_below (object ms) = refl

among_rows : {passed : List Name} {ms : Members} {between : ℕ} {k : Key} {d : Doc} → Among passed ms between k d → between + count_of d ≤ count_all ms
unfolding count_all
among_rows first = omega arith
among_rows (later a) = let h = among_rows a in omega arith

-- the rows of a value are its own and those of the values below it
inside_rows : {r : ℕ} {ty₁ : Ty} {u₁ : Under} {v : Doc} {ty : Ty} {u : Under} {row : ℕ} {d : Doc}
    → Inside r ty₁ u₁ v ty u row d → (row ≤ r) × (r < row + count_of d)
inside_rows {d = d} self = (omega arith, omega (arith, count_below d))
inside_rows {d = d} (down s a g i) = let h = inside_rows i in (omega arith, omega (arith, count_below d, among_rows a))

-- ---- the first of what is broken

-- where something may be broken by row and number: that nothing is, or the earliest row with its smallest number
pub data Least (P : (row number : ℕ) → Type 0) : Breach → Type 0 where
  unbroken : ((r m : ℕ) → ¬ P r m) → Least P nothing
  at_first : {r n : ℕ} → P r n → ((q m : ℕ) → P q m → (r ≤ q) × (q ≡ r → n ≤ m)) → Least P (found r n)

least_as : {P Q : ℕ → ℕ → Type 0} {b : Breach} → ((r m : ℕ) → P r m → Q r m) → ((r m : ℕ) → Q r m → P r m) → Least P b → Least Q b
least_as f g (unbroken h) = unbroken (λ r m q. h r m (g r m q))
least_as f g (at_first p h) = at_first (f _ _ p) (λ q m x. h q m (g q m x))

-- of two places, where the rows of the one stand before those of the other
least_or : {P Q : ℕ → ℕ → Type 0} {a b : Breach} → ((r m q n : ℕ) → P r m → Q q n → r < q) → Least P a → Least Q b
    → Least (λ r m. P r m ⊎ Q r m) (or_else a b)
least_or {P} {Q} before (unbroken f) (unbroken g) = unbroken (λ r m. ⊎_elim (f r m) (g r m))
least_or {P} {Q} before (unbroken f) (at_first y h) =
    at_first (inr y) (λ q m. ⊎_elim (λ x. absurd (f q m x)) (h q m))
least_or {P} {Q} before (at_first {r = r} {n = n} x h) b =
    at_first (inl x) (λ q m. ⊎_elim (h q m) (λ (y : Q q m). let lt : r < q = before r n q m x y in (omega arith, λ e. absurd (omega arith))))

-- ---- what is broken inside a value, and among members

record Broken (ty : Ty) (u : Under) (row : ℕ) (d : Doc) (r m : ℕ) : Type 0 where
  type : Ty
  under : Under
  value : Doc
  within : Inside r type under value ty u row d
  breaks : BreaksLine m type under value

record HeadBroken (ty : Ty) (k : Key) (row : ℕ) (d : Doc) (r m : ℕ) : Type 0 where
  type : Ty
  under : Under
  gives : Gives ty k d type under
  broken : Broken type under row d r m

record AmongBroken (ty : Ty) (passed : List Name) (row : ℕ) (ms : Members) (r m : ℕ) : Type 0 where
  between : ℕ
  key : Key
  value : Doc
  among : Among passed ms between key value
  broken : HeadBroken ty key (row + between) value r m

broken_rows : {ty : Ty} {u : Under} {row r m : ℕ} {d : Doc} → Broken ty u row d r m → (row ≤ r) × (r < row + count_of d)
broken_rows b = inside_rows b.within

at_row : {ty : Ty} {k : Key} {row row' r m : ℕ} {d : Doc} → row ≡ row' → HeadBroken ty k row d r m → HeadBroken ty k row' d r m
at_row {ty} {k} {r = r} {m = m} {d = d} e h = subst (λ (x : ℕ). HeadBroken ty k x d r m) e h

-- the first of some members, or one of the others
module _ {ty : Ty} {row r m : ℕ} where
  head_or_lem : {passed : List Name} {n : Name} {label : List ℕ} {d : Doc} {ms : Members}
      → HeadBroken ty (record { name = n; before = passed }) row d r m ⊎ AmongBroken ty (n ∷ passed) (row + count_of d) ms r m → AmongBroken ty passed row (member n label d ms) r m
  head_or_lem (inl h) =
      let e : row ≡ row + 0 = omega arith in
      record { between = 0; key = _; value = _; among = first; broken = at_row e h }
  head_or_lem {d = d} (inr b) =
      let e : row + count_of d + b.between ≡ row + (count_of d + b.between) = omega arith in
      record {
        between = count_of d + b.between;
        key = b.key;
        value = b.value;
        among = later b.among;
        broken = at_row e b.broken;
      }

  split : {passed : List Name} {n : Name} {k : Key} {label : List ℕ} {d v : Doc} {ms : Members} {between : ℕ}
      → Among passed (member n label d ms) between k v → HeadBroken ty k (row + between) v r m
      → HeadBroken ty (record { name = n; before = passed }) row d r m ⊎ AmongBroken ty (n ∷ passed) (row + count_of d) ms r m
  split first h = let e : row + 0 ≡ row = omega arith in inl (at_row e h)
  split {d = d} (later {between = between} a) h =
      let e : row + (count_of d + between) ≡ row + count_of d + between = omega arith in
      inr (record { between = between; key = _; value = _; among = a; broken = at_row e h })

  or_head : {passed : List Name} {n : Name} {label : List ℕ} {d : Doc} {ms : Members}
      → AmongBroken ty passed row (member n label d ms) r m → HeadBroken ty (record { name = n; before = passed }) row d r m ⊎ AmongBroken ty (n ∷ passed) (row + count_of d) ms r m
  or_head b = split b.among b.broken

-- ---- the type and the key of a member

-- an object's `@type` says of which type it is
of_test : (o : ObjectType) (d : Doc) → Decides (IsOf o d) (is_of o d)
unfolding is_of
of_test o (scalar kind token) = swap (λ h. absurd (true≢false (sym h.1))) (λ h. elim h [ ]) (lets (equal kind 7) (itself false))
of_test o (array ms) = fails (λ h. elim h [ ])
of_test o (object ms) =
    swap (λ h. named h.1 h.2) (λ h. elim h [ named m s ↦ (_, m, s) ]) (string_member (bytes "@type") (own_name o) ms)

-- a value where a type stands is asked the type that the definition has, and no other
chooses : (ty : Ty) (d : Doc) → Chooses ty d (chosen ty d)
chooses any d = B.nothing
chooses (simple l) d = B.value
chooses (object_of o) d = B.typed
chooses (list_of ty) d = B.list
chooses (map_of keys ty) d = B.map
chooses (by_type usual special) d = go (of_test special d)
  where
    go : {b : Bool} → Decides (IsOf special d) b → Chooses (by_type usual special) d (object_of (cond b special usual))
    go (holds h) = B.special_one h
    go (fails f) = B.usual_one f

chose : {ty ty₂ : Ty} {d : Doc} → Chooses ty d ty₂ → ty₂ ≡ chosen ty d
chose B.nothing = refl
chose B.value = refl
chose B.typed = refl
chose B.list = refl
chose B.map = refl
chose (B.special_one {usual = usual} {special = special} {d = d} h) =
    ap (λ (b : Bool). object_of (cond b special usual)) (sym (test_true (of_test special d) h))
chose (B.usual_one {usual = usual} {special = special} {d = d} f) =
    ap (λ (b : Bool). object_of (cond b special usual)) (sym (test_false (of_test special d) f))

-- the definition's type and key of a member are those that the table gives; of an unknown property nothing is asked
data Given (ty : Ty) (k : Key) (d : Doc) : Ty → (fits : Bool) → Type 0 where
  given : {ty₁ : Ty} {u₁ : Under} {fits : Bool} → Gives ty k d ty₁ u₁ → Decides (UnallowedKey u₁) (not fits)
      → ((ty₂ : Ty) (u₂ : Under) → Gives ty k d ty₂ u₂ → (ty₂ ≡ ty₁) × (u₂ ≡ u₁)) → Given ty k d ty₁ fits
  not_given : ((ty₂ : Ty) (u₂ : Under) → ¬ Gives ty k d ty₂ u₂) → Given ty k d any true

gives_line : {o : ObjectType} {k : Key} {d : Doc} {ty : Ty} {u : Under} → Gives (object_of o) k d ty u
    → (l : Known) × In l (properties o) × (l.spelling ≡ k.name) × Chooses l.type d ty × (u ≡ B.unkeyed)
gives_line (of_object {known = known} i e c) = (known, i, e, c, refl)

property_given : (o : ObjectType) (k : Key) (d : Doc) {ty : Ty} → Typed (properties o) k.name ty → Given (object_of o) k d (chosen ty d) true
property_given o k d (line x i e) =
    given
    (of_object i e (chooses x.type d))
    (fails (λ h. elim h [ ]))
    (λ ty₂ u₂ g.
    let l = gives_line g in
    (chose l.3 ∙ ap (λ (t : Ty). chosen t d) (sym (line_of o (line x i e) l.0 l.1 l.2)), l.4))
property_given o k d (no_line_lem f) = not_given (λ ty₂ u₂ g. let l = gives_line g in f l.0 l.1 l.2)

key_test : (keys : Keys) (k : Key) → Decides (UnallowedKey (key keys k)) (not (key_in keys k))
key_test free k = fails (λ h. elim h [ ])
key_test ids k = swap no_id (λ h. elim h [ no_id f ↦ f ]) (unless (id_test k.name))

gives_element : {ty ty₂ : Ty} {k : Key} {d : Doc} {u : Under} → Gives (list_of ty) k d ty₂ u → (ty₂ ≡ chosen ty d) × (u ≡ B.unkeyed)
gives_element (of_list c) = (chose c, refl)

gives_entry : {keys : Keys} {ty ty₂ : Ty} {k : Key} {d : Doc} {u : Under} → Gives (map_of keys ty) k d ty₂ u → (ty₂ ≡ chosen ty d) × (u ≡ key keys k)
gives_entry (of_map c) = (chose c, refl)

given_by : (ty : Ty) (k : Key) (d : Doc) → Given ty k d (member_type ty k.name d) (key_fits ty k)
given_by any k d = not_given (λ ty₂ u₂ g. elim g [ ])
given_by (simple l) k d = not_given (λ ty₂ u₂ g. elim g [ ])
given_by (object_of o) k d = property_given o k d (type_in_lem (properties o) k.name)
given_by (list_of ty) k d = given (of_list (chooses ty d)) (fails (λ h. elim h [ ])) (λ ty₂ u₂ g. gives_element g)
given_by (map_of keys ty) k d = given (of_map (chooses ty d)) (key_test keys k) (λ ty₂ u₂ g. gives_entry g)
given_by (by_type usual special) k d = not_given (λ ty₂ u₂ g. elim g [ ])

-- ---- the search

-- of an unknown property nothing is broken
nothing_asked : {row r m : ℕ} {d : Doc} → ¬ Broken any B.unkeyed row d r m
nothing_asked b = go b.within b.breaks
  where
    clean_any : {m : ℕ} {v : Doc} → ¬ BreaksLine m any B.unkeyed v
    clean_any (B.kind f) = f unknown
    clean_any (B.missing _ l) = elim l [ ]
    clean_any (B.value _ a) = elim a [ ]
    clean_any (B.badly_keyed _ k) = elim k [ ]
    clean_any (B.rule _ h) = elim h [ ]

    go : {row r m : ℕ} {ty : Ty} {u : Under} {d v : Doc} → Inside r ty u v any B.unkeyed row d → BreaksLine m ty u v → ⊥
    go self h = clean_any h
    go (down s a g i) h = elim g [ ]

-- a member's breach is that of the type that is asked of it
head_least : {ty ty₁ : Ty} {k : Key} {fits : Bool} {row : ℕ} {d : Doc} {b : Breach} → Given ty k d ty₁ fits
    → ((u : Under) → Decides (UnallowedKey u) (not fits) → Least (Broken ty₁ u row d) b) → Least (HeadBroken ty k row d) b
head_least {ty₁ = ty₁} {row = row} {d = d} (given {u₁ = u₁} g bk same) least =
    least_as
    (λ r m h. record { type = _; under = _; gives = g; broken = h })
    (λ r m h.
    let e = same h.type h.under h.gives in
    subst₂ (λ (t : Ty) (u : Under). Broken t u row d r m) e.0 e.1 h.broken)
    (least u₁ bk)
head_least (not_given f) least =
    least_as
    (λ r m h. absurd (nothing_asked h))
    (λ r m h. absurd (f h.type h.under h.gives))
    (least B.unkeyed (fails (λ h. elim h [ ])))

on_row : (n row : ℕ) (b : Breach) → 1 ≤ n → on_this_row n row b ≡ found row n
on_row zero row b h = absurd (omega arith)
on_row (suc n) row b h = refl

-- on its own row a value's own lines alone are broken
own_row : {ty ty₁ : Ty} {u u₁ : Under} {row r m n : ℕ} {d v : Doc} → ((l : ℕ) → BreaksLine l ty u d → n ≤ l) → Inside r ty₁ u₁ v ty u row d
    → BreaksLine m ty₁ u₁ v → r ≡ row → n ≤ m
own_row least self h e = least _ h
own_row least (down s a g i) h e = absurd (omega (arith, (inside_rows i).0))

-- a value's own lines, and what is broken below it
row_least : {ty : Ty} {u : Under} {row n : ℕ} {d : Doc} {b : Breach} → RowSays ty u d n → Least (AmongBroken ty [] (row + 1) (children_of d)) b
    → Least (Broken ty u row d) (on_this_row n row b)
row_least {ty} {u} {row} {d = d} (clean s f) least = least_as enter leave least
  where
    enter : (r m : ℕ) → AmongBroken ty [] (row + 1) (children_of d) r m → Broken ty u row d r m
    enter r m a =
        let h = a.broken in
        let x = h.broken in
        record { type = x.type; under = x.under; value = x.value; within = down s a.among h.gives x.within; breaks = x.breaks }

    go : {r m : ℕ} {ty₁ : Ty} {u₁ : Under} {v : Doc} → Inside r ty₁ u₁ v ty u row d → BreaksLine m ty₁ u₁ v → AmongBroken ty [] (row + 1) (children_of d) r m
    go self h = absurd (f _ h)
    go (down _ a g i) h =
        record {
          between = _;
          key = _;
          value = _;
          among = a;
          broken = record { type = _; under = _; gives = g; broken = record { type = _; under = _; value = _; within = i; breaks = h } };
        }

    leave : (r m : ℕ) → Broken ty u row d r m → AmongBroken ty [] (row + 1) (children_of d) r m
    leave r m x = go x.within x.breaks
row_least {row = row} {b = b} (worst {n = n} positive h least) _ =
    rw (on_row n row b positive)
    (at_first (record { type = _; under = _; value = _; within = self; breaks = h }) (λ q m x. ((broken_rows x).0, own_row least x.within x.breaks)))

none_among : {ty : Ty} {passed : List Name} {row : ℕ} → Least (AmongBroken ty passed row empty) nothing
none_among = unbroken (λ r m b. elim b.among [ ])

-- the rows of a member stand before those of the members after it
rows_rise : {ty ty₁ : Ty} {k : Key} {passed : List Name} {row r m q l : ℕ} {d : Doc} {ms : Members} → HeadBroken ty k row d r m
    → AmongBroken ty₁ passed (row + count_of d) ms q l → r < q
rows_rise h b = let x = broken_rows h.broken in let y = broken_rows b.broken.broken in omega arith

mutual
  unfolding breach_of breach_among

  value_least : (ty : Ty) (u : Under) (k : Bool) (row : ℕ) (d : Doc) → Decides (UnallowedKey u) (not k) → Least (Broken ty u row d) (breach_of ty k row d)
  value_least ty u k row (scalar kind token) bk = row_least (row_says ty u k (scalar kind token) bk) none_among
  value_least ty u k row (array ms) bk = row_least (row_says ty u k (array ms) bk) (members_least ty [] (row + 1) ms)
  value_least ty u k row (object ms) bk = row_least (row_says ty u k (object ms) bk) (members_least ty [] (row + 1) ms)

  members_least : (ty : Ty) (passed : List Name) (row : ℕ) (ms : Members) → Least (AmongBroken ty passed row ms) (breach_among ty passed row ms)
  members_least ty passed row empty = none_among
  members_least ty passed row (member n label d ms) =
      let k : Key = record { name = n; before = passed } in
      least_as (λ r m. head_or_lem) (λ r m. or_head)
      (least_or (λ r m q l. rows_rise)
      (head_least (given_by ty k d) (λ u bk. value_least (member_type ty n d) u (key_fits ty k) row d bk))
      (members_least ty (n ∷ passed) (row + count_of d) ms))

-- ---- whole cards

pub first_breach : (whole : Doc) → Least (RowBreaks whole) (card_breach whole)
first_breach whole =
    least_as
    (λ r m b. record { type = b.type; under = b.under; value = b.value; stands = inside_at_lem b.within root; broken = b.breaks })
    (λ r m b. record { type = b.type; under = b.under; value = b.value; within = at_inside b.stands; breaks = b.broken })
    (value_least (object_of card) B.unkeyed true 0 whole (fails (λ h. elim h [ ])))

-- a row that breaks something is a row of the document
pub broken_row : {whole : Doc} {row number : ℕ} → RowBreaks whole row number → row < count_of whole
broken_row b = let h = inside_rows (at_inside b.stands) in omega arith
