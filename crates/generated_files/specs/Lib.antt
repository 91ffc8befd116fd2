pub mod TwoTexts
