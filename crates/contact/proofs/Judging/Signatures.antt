-- The table of types is what the signatures say:
--     as-signed    line by line, with the names of the types; a name has one line; and the rules count names that have one
-- Assumes nothing.
use mathlib.Core.Path.{◌≡◌, refl}
use mathlib.Core.List.{map}
use mathlib.Core.Option.{some, bind, Option-elim}
use Rattle.laws.specs.Order.{order_of}
use Rattle.text.specs.Text.{bytes}
use Rattle.contact.specs.Schema.{exactly, simple, TypeRecord, types, type_in}
use Rattle.contact.specs.Values.{value_from}
use Rattle.contact.specs.Signatures.{signatures, type_words, names_from, meaning, cut, until_mark, bracketed, choice, plain_type, noted, line, parsed, AsSigned}
use Rattle.contact.proofs.Judging.Table.{one_line, rules_sound}

lines : map (map parsed) signatures ≡ map (λ (r : TypeRecord). map some r.known) types
unfolding signatures types parsed line noted plain_type choice bracketed until_mark cut meaning type_words names_from value_from bind Option-elim order_of
lines = refl

own_name_lem : map (λ (r : TypeRecord). type_in r.known (bytes "@type")) types ≡ map (λ (r : TypeRecord). simple (exactly (bytes r.own))) types
unfolding types type_in order_of
own_name_lem = refl

pub as_signed : AsSigned
as_signed = record { lines = lines; own_name_lem = own_name_lem; one_line = one_line; rules = rules_sound }
