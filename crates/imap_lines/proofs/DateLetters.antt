-- Dates, and what spells them.
use Rattle.std.proofs.Common.{◌≡◌, ℕ, ℤ, Bool, true, false, cond, ◌==◌, ◌&&◌, List, [], ◌∷◌, length, Option, None, Some, option_map, option_and_then, refl, ap, sym, ◌∙◌, arith}
use Rattle.std.proofs.lemmas.Bool.{eqb-true}
use Rattle.std.proofs.lemmas.Option.{same_Some}
use Rattle.civil_dates.specs.declared.days.Day.{Day}
use Rattle.civil_dates.specs.Days.{kept, seconds_of}
use Rattle.civil_dates.specs.Months.{month_of}
use Rattle.imap_tokens.specs.Dates.{two_below, day_number, year_number, day_of, day_in, second_of, clock_in, sign_in, ahead_of, zone_in, is_punctuated, is_real, real_moment, parts_in, date_in}
use Rattle.imap_lines.specs.DateText.{SpellsDate}
use Rattle.imap_lines.proofs.WrittenTokens.{and_true}
use Rattle.imap_tokens.proofs.Steps.{stepped, mapped}

three_day : (day month year : Option ℕ) (d m y : ℕ) → day ≡ Some d → month ≡ Some m → year ≡ Some y
    → option_and_then (λ (d : ℕ). option_and_then (λ (m : ℕ). option_map (λ (y : ℕ). day_of y m d) year) month) day ≡ Some (day_of y m d)
three_day day month year d m y a b c = rw (a, b, c) refl

three_clock : (hour minute second : Option ℕ) (h n s : ℕ) → hour ≡ Some h → minute ≡ Some n → second ≡ Some s
    → option_and_then (λ (h : ℕ). option_and_then (λ (n : ℕ). option_map (λ (s : ℕ). second_of h n s) second) minute) hour ≡ Some (second_of h n s)
three_clock hour minute second h n s a b c = rw (a, b, c) refl

three_zone : (sign : Option Bool) (hours minutes : Option ℕ) (s : Bool) (h n : ℕ) → sign ≡ Some s → hours ≡ Some h → minutes ≡ Some n
    → option_and_then (λ (s : Bool). option_and_then (λ (h : ℕ). option_map (λ (n : ℕ). ahead_of s h n) minutes) hours) sign ≡ Some (ahead_of s h n)
three_zone sign hours minutes s h n a b c = rw (a, b, c) refl

three_parts : (day : Option Day) (second : Option ℕ) (at_zone : Option ℤ) (d : Day) (s : ℕ) (z : ℤ) → day ≡ Some d → second ≡ Some s → at_zone ≡ Some z
    → option_and_then (λ (d : Day). option_and_then (λ (s : ℕ). option_and_then (λ (z : ℤ). real_moment d s z) at_zone) second) day ≡ real_moment d s z
three_parts day second at_zone d s z a b c = rw (a, b, c) refl

pub read_date : (bytes : List ℕ) (moment : ℕ) → SpellsDate moment bytes → date_in bytes ≡ Some moment
read_date bytes moment s =
    ap date_in s.whole
    ∙ three_parts _ _ _ _ _ _
    (three_day (day_number s.d1 s.d2) (month_of (s.m1 ∷ s.m2 ∷ s.m3 ∷ [])) (year_number s.y1 s.y2 s.y3 s.y4) s.day s.month s.year s.is_day s.is_month s.is_year)
    (three_clock (two_below 24 s.h1 s.h2) (two_below 60 s.n1 s.n2) (two_below 60 s.s1 s.s2) s.hour s.minute s.second s.is_hour s.is_minute s.is_second)
    (three_zone (sign_in s.z) (two_below 24 s.z1 s.z2) (two_below 60 s.z3 s.z4) s.behind s.hours s.minutes s.is_sign s.are_hours s.are_minutes)
    ∙ ap (λ t. cond t (Some (kept (seconds_of (day_of s.year s.month s.day) (second_of s.hour s.minute s.second) (ahead_of s.behind s.hours s.minutes)))) None) s.real
    ∙ ap Some (sym s.is)

real_by : (t : Bool) (moment kept_at : ℕ) → cond t (Some kept_at) None ≡ Some moment → (t ≡ true) × (moment ≡ kept_at)
real_by true moment kept_at e = (refl, sym (same_Some _ _ e))
real_by false moment kept_at e = absurd (let wrong : None ≡ Some moment = e in cc)

letters_sound : (d1 d2 p1 m1 m2 m3 p2 y1 y2 y3 y4 p3 h1 h2 p4 n1 n2 p5 s1 s2 p6 z z1 z2 z3 z4 moment : ℕ) → date_in (d1 ∷ d2 ∷ p1 ∷ m1 ∷ m2 ∷ m3 ∷ p2 ∷ y1 ∷ y2 ∷ y3 ∷ y4 ∷ p3 ∷ h1 ∷ h2 ∷ p4 ∷ n1 ∷ n2 ∷ p5 ∷ s1 ∷ s2 ∷ p6 ∷ z ∷ z1 ∷ z2 ∷ z3 ∷ z4 ∷ []) ≡ Some moment → SpellsDate moment (d1 ∷ d2 ∷ p1 ∷ m1 ∷ m2 ∷ m3 ∷ p2 ∷ y1 ∷ y2 ∷ y3 ∷ y4 ∷ p3 ∷ h1 ∷ h2 ∷ p4 ∷ n1 ∷ n2 ∷ p5 ∷ s1 ∷ s2 ∷ p6 ∷ z ∷ z1 ∷ z2 ∷ z3 ∷ z4 ∷ [])
letters_sound d1 d2 p1 m1 m2 m3 p2 y1 y2 y3 y4 p3 h1 h2 p4 n1 n2 p5 s1 s2 p6 z z1 z2 z3 z4 moment e = by_points (is_punctuated (d1 ∷ d2 ∷ p1 ∷ m1 ∷ m2 ∷ m3 ∷ p2 ∷ y1 ∷ y2 ∷ y3 ∷ y4 ∷ p3 ∷ h1 ∷ h2 ∷ p4 ∷ n1 ∷ n2 ∷ p5 ∷ s1 ∷ s2 ∷ p6 ∷ z ∷ z1 ∷ z2 ∷ z3 ∷ z4 ∷ [])) refl
  where
    bytes : List ℕ
    bytes = d1 ∷ d2 ∷ p1 ∷ m1 ∷ m2 ∷ m3 ∷ p2 ∷ y1 ∷ y2 ∷ y3 ∷ y4 ∷ p3 ∷ h1 ∷ h2 ∷ p4 ∷ n1 ∷ n2 ∷ p5 ∷ s1 ∷ s2 ∷ p6 ∷ z ∷ z1 ∷ z2 ∷ z3 ∷ z4 ∷ []

    by_parts : (p1 == 45) ≡ true → (p2 == 45) ≡ true → (p3 == 32) ≡ true → (p4 == 58) ≡ true → (p5 == 58) ≡ true → (p6 == 32) ≡ true → parts_in bytes ≡ Some moment → SpellsDate moment bytes
    by_parts e1 e2 e3 e4 e5 e6 parts =
        let d = stepped (day_in bytes) (λ (d : Day). option_and_then (λ (s : ℕ). option_and_then (λ (z : ℤ). real_moment d s z) (zone_in bytes)) (clock_in bytes)) moment parts in
        let c = stepped (clock_in bytes) (λ (s : ℕ). option_and_then (λ (z : ℤ). real_moment d.value s z) (zone_in bytes)) moment d.gives in
        let o = stepped (zone_in bytes) (λ (z : ℤ). real_moment d.value c.value z) moment c.gives in
        let dd = stepped (day_number d1 d2) (λ (x : ℕ). option_and_then (λ (m : ℕ). option_map (λ (y : ℕ). day_of y m x) (year_number y1 y2 y3 y4)) (month_of (m1 ∷ m2 ∷ m3 ∷ []))) d.value d.was in
        let dm = stepped (month_of (m1 ∷ m2 ∷ m3 ∷ [])) (λ (m : ℕ). option_map (λ (y : ℕ). day_of y m dd.value) (year_number y1 y2 y3 y4)) d.value dd.gives in
        let dy = mapped (year_number y1 y2 y3 y4) (λ (y : ℕ). day_of y dm.value dd.value) d.value dm.gives in
        let ch = stepped (two_below 24 h1 h2) (λ (h : ℕ). option_and_then (λ (n : ℕ). option_map (λ (s : ℕ). second_of h n s) (two_below 60 s1 s2)) (two_below 60 n1 n2)) c.value c.was in
        let cn = stepped (two_below 60 n1 n2) (λ (n : ℕ). option_map (λ (s : ℕ). second_of ch.value n s) (two_below 60 s1 s2)) c.value ch.gives in
        let cs = mapped (two_below 60 s1 s2) (λ (s : ℕ). second_of ch.value cn.value s) c.value cn.gives in
        let zs = stepped (sign_in z) (λ (s : Bool). option_and_then (λ (h : ℕ). option_map (λ (n : ℕ). ahead_of s h n) (two_below 60 z3 z4)) (two_below 24 z1 z2)) o.value o.was in
        let zh = stepped (two_below 24 z1 z2) (λ (h : ℕ). option_map (λ (n : ℕ). ahead_of zs.value h n) (two_below 60 z3 z4)) o.value zs.gives in
        let zn = mapped (two_below 60 z3 z4) (λ (n : ℕ). ahead_of zs.value zh.value n) o.value zh.gives in
        let r = real_by (is_real d.value) moment (kept (seconds_of d.value c.value o.value)) o.gives in
        record {
          d1 = d1;
          d2 = d2;
          m1 = m1;
          m2 = m2;
          m3 = m3;
          y1 = y1;
          y2 = y2;
          y3 = y3;
          y4 = y4;
          h1 = h1;
          h2 = h2;
          n1 = n1;
          n2 = n2;
          s1 = s1;
          s2 = s2;
          z = z;
          z1 = z1;
          z2 = z2;
          z3 = z3;
          z4 = z4;
          day = dd.value;
          month = dm.value;
          year = dy.value;
          hour = ch.value;
          minute = cn.value;
          second = cs.value;
          behind = zs.value;
          hours = zh.value;
          minutes = zn.value;
          whole = rw (eqb-true p1 45 e1, eqb-true p2 45 e2, eqb-true p3 32 e3, eqb-true p4 58 e4, eqb-true p5 58 e5, eqb-true p6 32 e6) refl;
          is_day = dd.was;
          is_month = dm.was;
          is_year = dy.was;
          is_hour = ch.was;
          is_minute = cn.was;
          is_second = cs.was;
          is_sign = zs.was;
          are_hours = zh.was;
          are_minutes = zn.was;
          real = ap is_real dy.is ∙ r.0;
          is = r.1 ∙ ap (λ d. kept (seconds_of d c.value o.value)) (sym dy.is) ∙ ap (λ s. kept (seconds_of (day_of dy.value dm.value dd.value) s o.value)) (sym cs.is)
              ∙ ap (λ z. kept (seconds_of (day_of dy.value dm.value dd.value) (second_of ch.value cn.value cs.value) z)) (sym zn.is);
        }

    by_points : (t : Bool) → is_punctuated bytes ≡ t → SpellsDate moment bytes
    by_points true is =
        let f = and_true ((p1 == 45) && (p2 == 45) && (p3 == 32) && (p4 == 58) && (p5 == 58)) (p6 == 32) is in
        let d = and_true ((p1 == 45) && (p2 == 45) && (p3 == 32) && (p4 == 58)) (p5 == 58) f.0 in
        let c = and_true ((p1 == 45) && (p2 == 45) && (p3 == 32)) (p4 == 58) d.0 in
        let b = and_true ((p1 == 45) && (p2 == 45)) (p3 == 32) c.0 in
        let a = and_true (p1 == 45) (p2 == 45) b.0 in
        by_parts a.0 a.1 b.1 c.1 d.1 f.1 (sym (ap (λ t. cond t (parts_in bytes) None) is) ∙ e)
    by_points false is = absurd (let wrong : None ≡ Some moment = sym (ap (λ t. cond t (parts_in bytes) None) is) ∙ e in cc)

date_size : (bytes : List ℕ) (moment : ℕ) → date_in bytes ≡ Some moment → length bytes ≡ 26
date_size bytes moment e = by_size (length bytes == 26) refl
  where
    by_size : (t : Bool) → (length bytes == 26) ≡ t → length bytes ≡ 26
    by_size true is = eqb-true (length bytes) 26 is
    by_size false is = absurd (let wrong : None ≡ Some moment = sym (ap (λ t. cond (t && is_punctuated bytes) (parts_in bytes) None) is) ∙ e in cc)

-- the letters of bytes, so many of them
letters_of : (bytes : List ℕ) (moment : ℕ) → length bytes ≡ 26 → date_in bytes ≡ Some moment → SpellsDate moment bytes
letters_of [] moment size e = absurd (omega arith)
letters_of (d1 ∷ []) moment size e = absurd (omega arith)
letters_of (d1 ∷ d2 ∷ []) moment size e = absurd (omega arith)
letters_of (d1 ∷ d2 ∷ p1 ∷ []) moment size e = absurd (omega arith)
letters_of (d1 ∷ d2 ∷ p1 ∷ m1 ∷ []) moment size e = absurd (omega arith)
letters_of (d1 ∷ d2 ∷ p1 ∷ m1 ∷ m2 ∷ []) moment size e = absurd (omega arith)
letters_of (d1 ∷ d2 ∷ p1 ∷ m1 ∷ m2 ∷ m3 ∷ []) moment size e = absurd (omega arith)
letters_of (d1 ∷ d2 ∷ p1 ∷ m1 ∷ m2 ∷ m3 ∷ p2 ∷ []) moment size e = absurd (omega arith)
letters_of (d1 ∷ d2 ∷ p1 ∷ m1 ∷ m2 ∷ m3 ∷ p2 ∷ y1 ∷ []) moment size e = absurd (omega arith)
letters_of (d1 ∷ d2 ∷ p1 ∷ m1 ∷ m2 ∷ m3 ∷ p2 ∷ y1 ∷ y2 ∷ []) moment size e = absurd (omega arith)
letters_of (d1 ∷ d2 ∷ p1 ∷ m1 ∷ m2 ∷ m3 ∷ p2 ∷ y1 ∷ y2 ∷ y3 ∷ []) moment size e = absurd (omega arith)
letters_of (d1 ∷ d2 ∷ p1 ∷ m1 ∷ m2 ∷ m3 ∷ p2 ∷ y1 ∷ y2 ∷ y3 ∷ y4 ∷ []) moment size e = absurd (omega arith)
letters_of (d1 ∷ d2 ∷ p1 ∷ m1 ∷ m2 ∷ m3 ∷ p2 ∷ y1 ∷ y2 ∷ y3 ∷ y4 ∷ p3 ∷ []) moment size e = absurd (omega arith)
letters_of (d1 ∷ d2 ∷ p1 ∷ m1 ∷ m2 ∷ m3 ∷ p2 ∷ y1 ∷ y2 ∷ y3 ∷ y4 ∷ p3 ∷ h1 ∷ []) moment size e = absurd (omega arith)
letters_of (d1 ∷ d2 ∷ p1 ∷ m1 ∷ m2 ∷ m3 ∷ p2 ∷ y1 ∷ y2 ∷ y3 ∷ y4 ∷ p3 ∷ h1 ∷ h2 ∷ []) moment size e = absurd (omega arith)
letters_of (d1 ∷ d2 ∷ p1 ∷ m1 ∷ m2 ∷ m3 ∷ p2 ∷ y1 ∷ y2 ∷ y3 ∷ y4 ∷ p3 ∷ h1 ∷ h2 ∷ p4 ∷ []) moment size e = absurd (omega arith)
letters_of (d1 ∷ d2 ∷ p1 ∷ m1 ∷ m2 ∷ m3 ∷ p2 ∷ y1 ∷ y2 ∷ y3 ∷ y4 ∷ p3 ∷ h1 ∷ h2 ∷ p4 ∷ n1 ∷ []) moment size e = absurd (omega arith)
letters_of (d1 ∷ d2 ∷ p1 ∷ m1 ∷ m2 ∷ m3 ∷ p2 ∷ y1 ∷ y2 ∷ y3 ∷ y4 ∷ p3 ∷ h1 ∷ h2 ∷ p4 ∷ n1 ∷ n2 ∷ []) moment size e = absurd (omega arith)
letters_of (d1 ∷ d2 ∷ p1 ∷ m1 ∷ m2 ∷ m3 ∷ p2 ∷ y1 ∷ y2 ∷ y3 ∷ y4 ∷ p3 ∷ h1 ∷ h2 ∷ p4 ∷ n1 ∷ n2 ∷ p5 ∷ []) moment size e = absurd (omega arith)
letters_of (d1 ∷ d2 ∷ p1 ∷ m1 ∷ m2 ∷ m3 ∷ p2 ∷ y1 ∷ y2 ∷ y3 ∷ y4 ∷ p3 ∷ h1 ∷ h2 ∷ p4 ∷ n1 ∷ n2 ∷ p5 ∷ s1 ∷ []) moment size e = absurd (omega arith)
letters_of (d1 ∷ d2 ∷ p1 ∷ m1 ∷ m2 ∷ m3 ∷ p2 ∷ y1 ∷ y2 ∷ y3 ∷ y4 ∷ p3 ∷ h1 ∷ h2 ∷ p4 ∷ n1 ∷ n2 ∷ p5 ∷ s1 ∷ s2 ∷ []) moment size e = absurd (omega arith)
letters_of (d1 ∷ d2 ∷ p1 ∷ m1 ∷ m2 ∷ m3 ∷ p2 ∷ y1 ∷ y2 ∷ y3 ∷ y4 ∷ p3 ∷ h1 ∷ h2 ∷ p4 ∷ n1 ∷ n2 ∷ p5 ∷ s1 ∷ s2 ∷ p6 ∷ []) moment size e = absurd (omega arith)
letters_of (d1 ∷ d2 ∷ p1 ∷ m1 ∷ m2 ∷ m3 ∷ p2 ∷ y1 ∷ y2 ∷ y3 ∷ y4 ∷ p3 ∷ h1 ∷ h2 ∷ p4 ∷ n1 ∷ n2 ∷ p5 ∷ s1 ∷ s2 ∷ p6 ∷ z ∷ []) moment size e = absurd (omega arith)
letters_of (d1 ∷ d2 ∷ p1 ∷ m1 ∷ m2 ∷ m3 ∷ p2 ∷ y1 ∷ y2 ∷ y3 ∷ y4 ∷ p3 ∷ h1 ∷ h2 ∷ p4 ∷ n1 ∷ n2 ∷ p5 ∷ s1 ∷ s2 ∷ p6 ∷ z ∷ z1 ∷ []) moment size e = absurd (omega arith)
letters_of (d1 ∷ d2 ∷ p1 ∷ m1 ∷ m2 ∷ m3 ∷ p2 ∷ y1 ∷ y2 ∷ y3 ∷ y4 ∷ p3 ∷ h1 ∷ h2 ∷ p4 ∷ n1 ∷ n2 ∷ p5 ∷ s1 ∷ s2 ∷ p6 ∷ z ∷ z1 ∷ z2 ∷ []) moment size e = absurd (omega arith)
letters_of (d1 ∷ d2 ∷ p1 ∷ m1 ∷ m2 ∷ m3 ∷ p2 ∷ y1 ∷ y2 ∷ y3 ∷ y4 ∷ p3 ∷ h1 ∷ h2 ∷ p4 ∷ n1 ∷ n2 ∷ p5 ∷ s1 ∷ s2 ∷ p6 ∷ z ∷ z1 ∷ z2 ∷ z3 ∷ []) moment size e = absurd (omega arith)
letters_of (d1 ∷ d2 ∷ p1 ∷ m1 ∷ m2 ∷ m3 ∷ p2 ∷ y1 ∷ y2 ∷ y3 ∷ y4 ∷ p3 ∷ h1 ∷ h2 ∷ p4 ∷ n1 ∷ n2 ∷ p5 ∷ s1 ∷ s2 ∷ p6 ∷ z ∷ z1 ∷ z2 ∷ z3 ∷ z4 ∷ []) moment size e = letters_sound d1 d2 p1 m1 m2 m3 p2 y1 y2 y3 y4 p3 h1 h2 p4 n1 n2 p5 s1 s2 p6 z z1 z2 z3 z4 moment e
letters_of (d1 ∷ d2 ∷ p1 ∷ m1 ∷ m2 ∷ m3 ∷ p2 ∷ y1 ∷ y2 ∷ y3 ∷ y4 ∷ p3 ∷ h1 ∷ h2 ∷ p4 ∷ n1 ∷ n2 ∷ p5 ∷ s1 ∷ s2 ∷ p6 ∷ z ∷ z1 ∷ z2 ∷ z3 ∷ z4 ∷ more ∷ bytes) moment size e = absurd (omega arith)

pub spelled_date : (bytes : List ℕ) (moment : ℕ) → date_in bytes ≡ Some moment → SpellsDate moment bytes
spelled_date bytes moment e = letters_of bytes moment (date_size bytes moment e) e
