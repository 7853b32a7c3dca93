-- Items that are sent one behind another, and what stands where a report was cut off.
use Rattle.std.proofs.Common.{◌≡◌, ℕ, ◌+◌, ◌<◌, ◌≤◌, List, [], ◌∷◌, ◌++◌, length, map, take, drop, get_or, Result, Ok, Err, inl, inr, refl, sym, ap, ◌∙◌, subst, append_assoc, append-nil}
use Rattle.std.specs.Prelude.{Option, OnOk, OnErr}
use Rattle.std.specs.List.{AllZip}
use Rattle.std.specs.Io.KnownBytes.{Appends}
use Rattle.std.proofs.KnownBytes.{Appends-nil, Appends-trans}
use Rattle.std.proofs.lemmas.List.{take_more, take_all, map-append, take-append-drop}
use Rattle.pol_outside.specs.Contents.{AppendsFront}
use Rattle.pol_text.specs.Texts.{joined}
use Rattle.pol_text.proofs.TextLemmas.{joined-append}
use Rattle.pol_relation.specs.Relations.{LanguageView}
use Rattle.pol_report.specs.declared.item.Item.{Item}
use Rattle.pol_report.specs.Texts.{head_line, last_line, item_text}
use Rattle.pol_lang.specs.Files.{FileView}
use Rattle.pol_cli.specs.Reports.{Subject, subjects, IsItem, IsReport, AppendsItems, AppendsItemsFront, AppendsReport, AppendsReportFront}

-- right items of two lists of subjects
AllZip-behind : {A B : Type 0} (R : A → B → Type 0) (xs zs : List A) (ys ws : List B) → AllZip R xs ys → AllZip R zs ws → AllZip R (xs ++ zs) (ys ++ ws)
AllZip-behind R [] zs [] ws first second = second
AllZip-behind R [] zs (y ∷ ys) ws first second = absurd first
AllZip-behind R (x ∷ xs) zs [] ws first second = absurd first
AllZip-behind R (x ∷ xs) zs (y ∷ ys) ws first second = (first.0, AllZip-behind R xs zs ys ws first.1 second)

-- a front behind a whole text
front_behind_whole : (old mid new : Option (List ℕ)) (one other : List ℕ) → Appends old mid one → AppendsFront mid new other → AppendsFront old new (one ++ other)
front_behind_whole old mid new one other whole (front, rest, split, appended) =
    (one ++ front, rest, ap (λ text. one ++ text) split ∙ sym (append_assoc one front rest), Appends-trans old mid new one front whole appended)

-- nothing of what is to be appended
front_nothing : (held : Option (List ℕ)) (text : List ℕ) → AppendsFront held held text
front_nothing held text = ([], text, refl, Appends-nil held)

-- a front is a front of a longer text
front_more : (old new : Option (List ℕ)) (one other : List ℕ) → AppendsFront old new one → AppendsFront old new (one ++ other)
front_more old new one other (front, rest, split, appended) =
    (front, rest ++ other, ap (λ text. text ++ other) split ∙ append_assoc front rest other, appended)

module _ (lang : LanguageView) where
  -- no items
  pub items_none : (held : Option (List ℕ)) → AppendsItems lang [] held held
  items_none held = record { items = []; right = tt; appended = Appends-nil held }

  -- no item was begun
  pub items_nothing : (some : List Subject) (held : Option (List ℕ)) → AppendsItemsFront lang some held held
  items_nothing some held = record { first = []; later = some; split = refl; items = []; right = tt; appended = front_nothing held [] }

  -- one item
  pub items_one : (subject : Subject) (told : Item) (old new : Option (List ℕ)) → IsItem lang subject told → Appends old new (item_text told) → AppendsItems lang (subject ∷ []) old new
  items_one subject told old new right appended = record {
    items = told ∷ [];
    right = (right, tt);
    appended = subst (Appends old new) (sym (append-nil (item_text told))) appended;
  }

  -- a front of one item
  pub items_one_front : (subject : Subject) (told : Item) (old new : Option (List ℕ)) → IsItem lang subject told → AppendsFront old new (item_text told) → AppendsItemsFront lang (subject ∷ []) old new
  items_one_front subject told old new right appended = record {
    first = subject ∷ [];
    later = [];
    split = refl;
    items = told ∷ [];
    right = (right, tt);
    appended = subst (AppendsFront old new) (sym (append-nil (item_text told))) appended;
  }

  -- items behind items
  pub items_then : (some more : List Subject) (old mid new : Option (List ℕ)) → AppendsItems lang some old mid → AppendsItems lang more mid new → AppendsItems lang (some ++ more) old new
  items_then some more old mid new one other = record {
    items = one.items ++ other.items;
    right = AllZip-behind (IsItem lang) some more one.items other.items one.right other.right;
    appended = subst (Appends old new) (sym (joined-append item_text one.items other.items)) (Appends-trans old mid new (joined item_text one.items) (joined item_text other.items) one.appended other.appended);
  }

  -- a front of items behind items
  pub items_then_front : (some more : List Subject) (old mid new : Option (List ℕ)) → AppendsItems lang some old mid → AppendsItemsFront lang more mid new → AppendsItemsFront lang (some ++ more) old new
  items_then_front some more old mid new one other = record {
    first = some ++ other.first;
    later = other.later;
    split = ap (λ subjects. some ++ subjects) other.split ∙ sym (append_assoc some other.first other.later);
    items = one.items ++ other.items;
    right = AllZip-behind (IsItem lang) some other.first one.items other.items one.right other.right;
    appended = subst (AppendsFront old new) (sym (joined-append item_text one.items other.items)) (front_behind_whole old mid new (joined item_text one.items) (joined item_text other.items) one.appended other.appended);
  }

  -- a front of the items of some subjects is one of the items of these and more
  pub items_front_more : (some more : List Subject) (old new : Option (List ℕ)) → AppendsItemsFront lang some old new → AppendsItemsFront lang (some ++ more) old new
  items_front_more some more old new front = record {
    first = front.first;
    later = front.later ++ more;
    split = ap (λ subjects. subjects ++ more) front.split ∙ append_assoc front.first front.later more;
    items = front.items;
    right = front.right;
    appended = front.appended;
  }

module _ (file : FileView) where
  -- the head line was cut off
  pub report_cut_in_head : (old new : Option (List ℕ)) → AppendsFront old new head_line → AppendsReportFront file old new
  report_cut_in_head old new front = record {
    text = head_line;
    is = inl (record { first = []; later = subjects file; split = refl; has_items = record { items = []; right = tt; text_is = sym (append-nil head_line) } });
    appended = front;
  }

  -- the items were cut off
  pub report_cut_in_items : (old mid new : Option (List ℕ)) → Appends old mid head_line → AppendsItemsFront file.language (subjects file) mid new → AppendsReportFront file old new
  report_cut_in_items old mid new head front = record {
    text = head_line ++ joined item_text front.items;
    is = inl (record { first = front.first; later = front.later; split = front.split; has_items = record { items = front.items; right = front.right; text_is = refl } });
    appended = front_behind_whole old mid new head_line (joined item_text front.items) head front.appended;
  }

  -- the items stand behind the head line
  pub items_behind_head : (old mid new : Option (List ℕ)) → Appends old mid head_line → (has : AppendsItems file.language (subjects file) mid new) → Appends old new (head_line ++ joined item_text has.items)
  items_behind_head old mid new head has = Appends-trans old mid new head_line (joined item_text has.items) head has.appended

  whole_report : (items : List Item) → AllZip (IsItem file.language) (subjects file) items → IsReport file ((head_line ++ joined item_text items) ++ last_line)
  whole_report items right = record { front = head_line ++ joined item_text items; has_items = record { items = items; right = right; text_is = refl }; text_is = refl }

  -- the last line was cut off
  pub report_cut_in_last : (old mid behind new : Option (List ℕ)) → Appends old mid head_line → AppendsItems file.language (subjects file) mid behind → AppendsFront behind new last_line → AppendsReportFront file old new
  report_cut_in_last old mid behind new head has front = record {
    text = (head_line ++ joined item_text has.items) ++ last_line;
    is = inr (whole_report has.items has.right);
    appended = front_behind_whole old behind new (head_line ++ joined item_text has.items) last_line (items_behind_head old mid behind head has) front;
  }

  -- the report
  pub report_whole : (old mid behind new : Option (List ℕ)) → Appends old mid head_line → AppendsItems file.language (subjects file) mid behind → Appends behind new last_line → AppendsReport file old new
  report_whole old mid behind new head has last = record {
    text = (head_line ++ joined item_text has.items) ++ last_line;
    is_report = whole_report has.items has.right;
    appended = Appends-trans old behind new (head_line ++ joined item_text has.items) last_line (items_behind_head old mid behind head has) last;
  }

-- ---- loops over classes and instances

-- what is so where a call failed, where it is so anyhow
pub err_of : {A E : Type 0} (r : Result A E) {P : Type 0} → P → OnErr r P
err_of (Ok x) is = tt
err_of (Err e) is = is

-- a last call behind items that were sent
pub items_sent : {A E : Type 0} (lang : LanguageView) (r : Result A E) (some more : List Subject) (old mid new : Option (List ℕ)) → AppendsItems lang some old mid → OnOk r (AppendsItems lang more mid new) → OnOk r (AppendsItems lang (some ++ more) old new)
items_sent lang (Ok x) some more old mid new one other = items_then lang some more old mid new one other
items_sent lang (Err e) some more old mid new one other = tt

pub items_cut : {A E : Type 0} (lang : LanguageView) (r : Result A E) (some more : List Subject) (old mid new : Option (List ℕ)) → AppendsItems lang some old mid → OnErr r (AppendsItemsFront lang more mid new) → OnErr r (AppendsItemsFront lang (some ++ more) old new)
items_cut lang (Ok x) some more old mid new one other = tt
items_cut lang (Err e) some more old mid new one other = items_then_front lang some more old mid new one other

-- the subjects of one element more
pub subjects_next : {X : Type 0} (subject : X → Subject) (xs : List X) (i : ℕ) (d : X) → i < length xs → map subject (take (i + 1) xs) ≡ map subject (take i xs) ++ subject (get_or xs i d) ∷ []
subjects_next subject xs i d inside = ap (map subject) (take_more xs i d inside) ∙ map-append subject (take i xs) (get_or xs i d ∷ [])

-- those of the first elements, and those of the others
subjects_split : {X : Type 0} (subject : X → Subject) (xs : List X) (n : ℕ) → map subject (take n xs) ++ map subject (drop n xs) ≡ map subject xs
subjects_split subject xs n = sym (map-append subject (take n xs) (drop n xs)) ∙ ap (map subject) (take-append-drop n xs)

module _ {X : Type 0} (lang : LanguageView) (subject : X → Subject) (xs : List X) (i : ℕ) (d : X) (inside : i < length xs) (old mid new : Option (List ℕ)) where
  -- the item of one element more was sent
  pub one_sent : AppendsItems lang (map subject (take i xs)) old mid → AppendsItems lang (subject (get_or xs i d) ∷ []) mid new → AppendsItems lang (map subject (take (i + 1) xs)) old new
  one_sent before one = subst (λ some. AppendsItems lang some old new) (sym (subjects_next subject xs i d inside)) (items_then lang (map subject (take i xs)) (subject (get_or xs i d) ∷ []) old mid new before one)

  -- or was cut off
  pub one_cut : AppendsItems lang (map subject (take i xs)) old mid → AppendsItemsFront lang (subject (get_or xs i d) ∷ []) mid new → AppendsItemsFront lang (map subject xs) old new
  one_cut before one =
      let first = items_then_front lang (map subject (take i xs)) (subject (get_or xs i d) ∷ []) old mid new before one in
      let next = subst (λ some. AppendsItemsFront lang some old new) (sym (subjects_next subject xs i d inside)) first in
      subst (λ some. AppendsItemsFront lang some old new) (subjects_split subject xs (i + 1)) (items_front_more lang (map subject (take (i + 1) xs)) (map subject (drop (i + 1) xs)) old new next)

-- behind the last element all were sent
pub all_sent : {X : Type 0} (lang : LanguageView) (subject : X → Subject) (xs : List X) (i : ℕ) (old new : Option (List ℕ)) → length xs ≤ i → AppendsItems lang (map subject (take i xs)) old new → AppendsItems lang (map subject xs) old new
all_sent lang subject xs i old new all sent = subst (λ some. AppendsItems lang (map subject some) old new) (take_all i xs all) sent
