-- The conditions 3, 5, 6 and 7 are those that the tests of the call find.
use mathlib.Core.Path.{◌≡◌, refl, sym, ap, ◌∙◌}
use mathlib.Core.Bool.{true, false, false≢true}
use mathlib.Core.List.{List}
use Prim.Native.Nat.{ℕ, ◌-◌, ◌<◌}
use native.Mathlib.Omega.{arith}
use lib.Dec.{eqb}
use lib.ListN.{length, get_or, set, take, drop, length-set, length-take, length-drop}
use lib.Seq.{ext_get_or, get_or-set_same, get_or-set_other}
use borrow.Author.Tests.{eqb-true, eq-eqb, eqb-false, ne_eqb}
use Rattle.klv.specs.Bytes.{same}
use Rattle.klv.specs.Layout.{read_as}
use Rattle.klv.specs.declared.layout.Form.TheVariants.{Ber}
use Rattle.klv.specs.Number.{Read}
use Rattle.klv.specs.Number.{Value}
use Rattle.klv.specs.declared.layout.NumberError.TheVariants.{Missing, Malformed}
use Rattle.std.specs.Prelude.{Ok, Err}
use Rattle.klv.proofs.Cases.{pick_cases, test_cases}
use Rattle.klv.proofs.BytesLaws.{same_true, same_iff}
use Rattle.groups.specs.declared.refusal.Refusal.{Refusal}
use Rattle.groups.specs.declared.refusal.Refusal.TheVariants.{OuterLength}
use Rattle.groups.specs.Refusal.{Answer, refused}
use Rattle.groups.specs.Kind.{kind_of, is_group, is_global, family_of, family}
use Rattle.groups.specs.Read.{Entry, under, most, read_items, after_length, read_body, group_key_ok}
use Rattle.groups.proofs.regroup.AnswerLaws.{check_refused}
use Rattle.groups.proofs.kind.KindLaws.{group_key_law, group_size as size-of-group}
use Rattle.claims.specs.Condition.{TargetFault, target_size, target_no_key, target_no_group, GroupFault, group_size, group_no_key, group_no_group, OneFamily, but_byte_6, first_global, second_global, TwoFamilies, OuterFault, outer_missing, outer_malformed, outer_other, Outer}
use Rattle.claims.proofs.TableFaults.{not_so}

-- ---- 3 and 5

target_never : (k : List ℕ) → is_group (kind_of k) ≡ true → TargetFault k → ⊥
target_never k e (target_size f) = f (size-of-group k e)
target_never k e (target_no_key f) = false≢true (sym f ∙ group_key_law k e)
target_never k e (target_no_group f) = false≢true (sym f ∙ e)

pub fault_target : (k : List ℕ) → TargetFault k → is_group (kind_of k) ≡ false
fault_target k f = not_so (is_group (kind_of k)) (λ e. target_never k e f)

group_never : (g : List ℕ) → group_key_ok g ≡ true → GroupFault g → ⊥
group_never g e (group_size f) = omega (arith, size-of-group (take 16 g) e, length-take 16 g)
group_never g e (group_no_key f) = false≢true (sym f ∙ group_key_law (take 16 g) e)
group_never g e (group_no_group f) = false≢true (sym f ∙ e)

pub fault_group : (g : List ℕ) → GroupFault g → group_key_ok g ≡ false
fault_group g f = not_so (group_key_ok g) (λ e. group_never g e f)

-- ---- 6

-- keys of 16 bytes differ at most in byte 6: put that byte of the second into the first, and they are the same
but_one : (a b : List ℕ) → length a ≡ 16 → length b ≡ 16 → ((n : ℕ) → (n ≡ 5 → ⊥) → get_or a n 0 ≡ get_or b n 0) → set a 5 (get_or b 5 0) ≡ b
but_one a b m n f = ext_get_or 0 (set a 5 (get_or b 5 0)) b (length-set a 5 (get_or b 5 0) ∙ (m ∙ sym n)) each
  where
    each : (j : ℕ) → j < length (set a 5 (get_or b 5 0)) → get_or (set a 5 (get_or b 5 0)) j 0 ≡ get_or b j 0
    each j h =
        test_cases (eqb j 5)
        (λ t. let z : j ≡ 5 = eqb-true j 5 t in rw z (get_or-set_same a 5 (get_or b 5 0) 0 (omega arith)))
        (λ t. let z : j ≡ 5 → ⊥ = eqb-false j 5 t in get_or-set_other a 5 j (get_or b 5 0) 0 z ∙ f j z)

one_but : (a b : List ℕ) → set a 5 (get_or b 5 0) ≡ b → (n : ℕ) → (n ≡ 5 → ⊥) → get_or a n 0 ≡ get_or b n 0
one_but a b e n h = sym (get_or-set_other a 5 n (get_or b 5 0) 0 h) ∙ ap (λ (l : List ℕ). get_or l n 0) e

family_holds : (a b : List ℕ) → length a ≡ 16 → length b ≡ 16 → OneFamily a b → family a b ≡ true
unfolding family_of
family_holds a b m n (but_byte_6 f) =
    let s : same (set a 5 (get_or b 5 0)) b ≡ true = (same_iff (set a 5 (get_or b 5 0)) b).1 (but_one a b m n f) in
    test_cases (is_global (kind_of a)) (λ t. rw t) (λ t. rw t (test_cases (is_global (kind_of b)) (λ o. rw o) (λ o. rw (o, s))))
family_holds a b m n (first_global h) = rw h
family_holds a b m n (second_global h) = test_cases (is_global (kind_of a)) (λ t. rw t) (λ t. rw (t, h))

family_told : (a b : List ℕ) → family a b ≡ true → OneFamily a b
unfolding family_of
family_told a b e =
    pick_cases (is_global (kind_of a)) _ _ true e
    (λ t f. first_global t)
    (λ t f. pick_cases (is_global (kind_of b)) _ _ true f
    (λ t f. second_global t)
    (λ t f. but_byte_6 (one_but a b (same_true (set a 5 (get_or b 5 0)) b f))))

pub two_families : (a b : List ℕ) → is_group (kind_of a) ≡ true → is_group (kind_of b) ≡ true → family a b ≡ false → TwoFamilies a b
two_families a b g h e =
    record {
      first_group = g;
      second_group = h;
      apart = λ o. false≢true (sym e ∙ family_holds a b (size-of-group a g) (size-of-group b h) o);
    }

pub fault_family : (a b : List ℕ) → TwoFamilies a b → family a b ≡ false
fault_family a b t = not_so (family a b) (λ e. t.apart (family_told a b e))

-- ---- 7

length_fault : {P : Type 0} (l : List ℕ) (m : Read) (go : List ℕ → Answer (List Entry)) (r : Refusal) (p : ℕ) → after_length l m go ≡ refused r p
    → (OuterLength ≡ r → 0 ≡ p → m ≡ Err Missing → P) → (OuterLength ≡ r → 0 ≡ p → m ≡ Err Malformed → P)
    → ((v w : ℕ) → OuterLength ≡ r → 0 ≡ p → m ≡ Value v w → (v ≡ length (drop w l) → ⊥) → P)
    → ((v w : ℕ) → m ≡ Value v w → v ≡ length (drop w l) → go (drop w l) ≡ refused r p → P) → P
length_fault l (Ok n) go r p e a b c d =
    check_refused (eqb n.value (length l - n.width)) OuterLength _ r p e
    (λ t q z. c n.value n.width (sym q) (sym z) refl (λ h. eqb-false n.value (length l - n.width) t (h ∙ length-drop n.width l)))
    (λ t f. d n.value n.width refl (eqb-true n.value (length l - n.width) t ∙ sym (length-drop n.width l)) f)
length_fault l (Err Missing) go r p e a b c d = a (cc) (cc) refl
length_fault l (Err Malformed) go r p e a b c d = b (cc) (cc) refl

-- the outer length is at fault, or it is right and the items are refused
pub body_fault : {P : Type 0} (tags packs s : List ℕ) (r : Refusal) (p : ℕ) → read_body tags packs s ≡ refused r p
    → (OuterLength ≡ r → 0 ≡ p → OuterFault s → P)
    → ((body : List ℕ) → Outer s body → read_items (under (take 16 s) tags packs) (most (under (take 16 s) tags packs)) 0 body ≡ refused r p → P) → P
unfolding read_body
body_fault tags packs s r p e f g =
    length_fault (drop 16 s) (read_as Ber (drop 16 s)) _ r p e
    (λ q z m. f q z (outer_missing m))
    (λ q z m. f q z (outer_malformed m))
    (λ v w q z m h. f q z (outer_other v w m h))
    (λ v w m h q. g (drop w (drop 16 s)) (record { width = w; reads = rw (← h) m; rest = refl }) q)

-- an outer length at fault is refused
pub outer_refuses : (tags packs s : List ℕ) → OuterFault s → read_body tags packs s ≡ refused OuterLength 0
unfolding read_body
outer_refuses tags packs s (outer_missing m) = rw m
outer_refuses tags packs s (outer_malformed m) = rw m
outer_refuses tags packs s (outer_other v w m h) =
    rw (m, ne_eqb v (length (drop 16 s) - w) (λ q. h (q ∙ sym (length-drop w (drop 16 s)))))

-- where it is right the items are read
pub outer_reads : (tags packs s body : List ℕ) → Outer s body
    → read_body tags packs s ≡ read_items (under (take 16 s) tags packs) (most (under (take 16 s) tags packs)) 0 body
unfolding read_body
outer_reads tags packs s body o =
    let n : length body ≡ length (drop 16 s) - o.width = ap length o.rest ∙ length-drop o.width (drop 16 s) in
    rw (o.reads, eq-eqb (length body) (length (drop 16 s) - o.width) n, ← o.rest)
